-- Two targets that are the same are equal, and each is the same as itself.
use Rattle.std.specs.Prelude.{◌≡◌, ℕ, Bool, true, nat_eq, ◌&&◌, Option, Some, None}
use Rattle.std.proofs.Common.{refl, arith, ap, ◌∙◌}
use Rattle.std.specs.declared.cmp.Ordering.{Ordering}
use Rattle.std.specs.declared.cmp.Ordering.TheVariants.{Less, Equal, Greater}
use Rattle.std.specs.Cmp.{tied_itself}
use Rattle.std.specs.Ordering.{is_eq}
use Rattle.std.proofs.lemmas.Grind.{common_steps}
use Rattle.babel_value.specs.declared.addresses.Addr.{Addr}
use Rattle.babel_value.specs.Orders.{addr_cmp}
use Rattle.babel_value.proofs.OrderLaws.{addr_exact, addr_total}
use Rattle.babel_state.specs.declared.items.Target.{Target}
use Rattle.babel_state.specs.NextDatagram.{is_same_receiver, is_same_target}

equal : (o : Ordering) → is_eq o ≡ true → o ≡ Equal
equal Less e = cc
equal Equal e = refl
equal Greater e = cc

same_receiver : (a b : Option Addr) → is_same_receiver a b ≡ true → a ≡ b
same_receiver None None same = refl
same_receiver None (Some b) same = cc
same_receiver (Some a) None same = cc
same_receiver (Some a) (Some b) same = ap Some (addr_exact a b (equal (addr_cmp a b) same))

same_parts : (i j : ℕ) (a b : Option Addr) → (nat_eq i j && is_same_receiver a b) ≡ true → (i ≡ j) × (a ≡ b)
same_parts i j a b same =
    let iface : i ≡ j = grind (arith, common_steps) in
    let to : is_same_receiver a b ≡ true = grind (arith, common_steps) in
    (iface, same_receiver a b to)

pub same_target : (a b : Target) → is_same_target a b ≡ true → a ≡ b
same_target a b same =
    let parts = same_parts a.iface b.iface a.to b.to same in
    let built : ℕ → Option Addr → Target = λ i t. record { iface = i; to = t } in
    ap (λ i. built i a.to) parts.0 ∙ ap (λ t. built b.iface t) parts.1

receiver_itself : (a : Option Addr) → is_same_receiver a a ≡ true
receiver_itself None = refl
receiver_itself (Some a) = ap is_eq (tied_itself addr_total a)

both_same : (i : ℕ) (b : Bool) → b ≡ true → (nat_eq i i && b) ≡ true
both_same i b same = grind (arith, common_steps)

pub target_itself : (a : Target) → is_same_target a a ≡ true
target_itself a = both_same a.iface (is_same_receiver a.to a.to) (receiver_itself a.to)
