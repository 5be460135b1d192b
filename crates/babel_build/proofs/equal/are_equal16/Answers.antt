-- The last 8 of 16 octets are what is left after the first 8.
use Rattle.std.proofs.Common.{◌≡◌, true, take, drop, ◌∙◌, arith, length-drop}
use Rattle.std.specs.Str.{bytes_eq}
use Rattle.std.proofs.lemmas.List.{take_all}
use Rattle.babel_build.proofs.Numbers.{equal_parts}
use Rattle.babel_build.proofs.equal.are_equal16.Goals as goal

pub returns-then-are_equal8 : goal.returns-then-are_equal8
returns-then-are_equal8 c =
    let one = c.args.one.now in
    let other = c.args.other.now in
    let last : c.half-last.result ≡ drop 8 one = c.half-last.ensures ∙ take_all 8 (drop 8 one) (omega (arith, length-drop 8 one)) in
    let other_last : c.half-other_last.result ≡ drop 8 other = c.half-other_last.ensures ∙ take_all 8 (drop 8 other) (omega (arith, length-drop 8 other)) in
    let first : bytes_eq (take 8 one) (take 8 other) ≡ true = cc in
    c.are_equal8-then-are_equal8.ensures ∙ rw (last, other_last) (rw first at (equal_parts 8 one other))
