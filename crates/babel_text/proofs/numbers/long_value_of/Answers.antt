-- All octets are digits, and the value is theirs.
use Rattle.std.proofs.Common.{◌∙◌, ap, subst, arith, rules, length, ◌<◌, ◌^◌}
use Rattle.std.proofs.lemmas.List.{take_all}
use Rattle.std.specs.Str.Parse.{digits_value}
use Rattle.babel_text.proofs.Decimals.{all_are_digits}
use Rattle.babel_text.proofs.numbers.long_value_of.Goals as goal

pub returns : goal.returns
returns c =
    let digits = c.args.digits.now in
    let is = c.loop-octet.invariant.1 ∙ ap (digits_value 10) (take_all c.loop-octet.octet-index digits (omega arith)) in
    let some : 0 < length digits = search rules in
    (all_are_digits digits some (λ k less. c.loop-octet.invariant.0 k (omega arith)), subst (λ v. v < 2 ^ 64) is c.loop-octet.invariant.2, is)
