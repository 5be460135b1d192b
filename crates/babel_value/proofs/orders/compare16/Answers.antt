-- The first 8 octets decide, then the last 8.
use Rattle.std.proofs.Common.{◌≡◌, true, false, take, drop, refl, ap, ◌∙◌, arith}
use Rattle.std.specs.declared.cmp.Ordering.{Ordering}
use Rattle.std.specs.declared.cmp.Ordering.TheVariants.{Less, Equal, Greater}
use Rattle.std.specs.Ordering.{ordering_then, is_ne}
use Rattle.babel_value.specs.Orders.{octets_cmp}
use Rattle.babel_value.proofs.Numbers.{cmp_parts}
use Rattle.babel_value.proofs.orders.compare16.Goals as goal

decides : (o p : Ordering) → true ≡ is_ne o → o ≡ ordering_then o p
decides Less p unequal = refl
decides Equal p unequal = cc
decides Greater p unequal = refl

leaves : (o p : Ordering) → false ≡ is_ne o → p ≡ ordering_then o p
leaves Less p equal = cc
leaves Equal p equal = refl
leaves Greater p equal = cc

pub returns-then-is_ne : goal.returns-then-is_ne
returns-then-is_ne c =
    let one = c.args.one.now in
    let other = c.args.other.now in
    decides c.compare8-first.result (octets_cmp (drop 8 one) (drop 8 other)) c.if-is_ne.ensures
    ∙ ap (λ o. ordering_then o (octets_cmp (drop 8 one) (drop 8 other))) (rw (c.first_half.ensures, c.first_half-2.ensures) at c.compare8-first.ensures)
    ∙ cmp_parts 8 one other (omega arith) (omega arith)

pub returns : goal.returns
returns c =
    let one = c.args.one.now in
    let other = c.args.other.now in
    leaves c.compare8-first.result c.compare8.result c.if-is_ne.ensures
    ∙ ap (λ o. ordering_then o c.compare8.result) (rw (c.first_half.ensures, c.first_half-2.ensures) at c.compare8-first.ensures)
    ∙ ap (ordering_then (octets_cmp (take 8 one) (take 8 other))) (rw (c.last_half.ensures, c.last_half-2.ensures) at c.compare8.ensures)
    ∙ cmp_parts 8 one other (omega arith) (omega arith)
