-- The digits before the blank are the number in decimal.
use Rattle.std.proofs.Common.{◌+◌, ◌-◌, ◌<◌, ◌^◌, take, drop, length, Some, sym, subst, arith, eq-eqb}
use Rattle.std.proofs.lemmas.List.{take_all, length-drop}
use Rattle.babel_text.specs.Numbers.{IsNumberText}
use Rattle.babel_text.proofs.Decimals.{empty_spells_none, no_number, number_reads}
use Rattle.babel_text.proofs.FirstBlanks.{first_blank, no_blank, parted}
use Rattle.babel_text.proofs.SplitNumbers.{no_blanks, front_is_numeral, no_number_before, no_number_here}
use Rattle.babel_text.proofs.numbers.split_number.Goals.{then-index-eq0-via-then-index-eq0, then-index-eq0-via-else-index-eq0+then-has_leading_zero}
use Rattle.babel_text.proofs.numbers.split_number.Goals as goal

pub returns-then-index-eq0 : goal.returns-then-index-eq0
returns-then-index-eq0 c =
    let text = c.args.text.now in
    let i = c.loop-index.index in
    let is = first_blank text i (omega arith) (no_blanks text i c.loop-index.invariant.0) (λ _. eq-eqb _ 32 c.if-octet-eq32.true) in
    elim c.then-index-eq0.branch [
      | then-index-eq0-via-then-index-eq0 w ↦ no_number_here text i is (λ n. subst (λ j. ¬ (IsNumberText 64 (take j text) n)) (sym w.if-index-eq0.true) (empty_spells_none n))
      | then-index-eq0-via-else-index-eq0+then-has_leading_zero w ↦ no_number_here text i is (no_number (take i text) (cc))
    ]

pub returns-then-octet-eq32 : goal.returns-then-octet-eq32
returns-then-octet-eq32 c =
    let text = c.args.text.now in
    let i = c.loop-index.index in
    let is = first_blank text i (omega arith) (no_blanks text i c.loop-index.invariant.0) (λ _. eq-eqb _ 32 c.if-octet-eq32.true) in
    let parts = parted text _ i (omega arith) is (take_all (length text - (i + 1)) (drop (i + 1) text) (omega (arith, length-drop (i + 1) text))) in
    let numeral = front_is_numeral text i (omega (arith, c.if-index-eq0.false)) (omega arith) c.loop-index.invariant.0 in
    let number = number_reads (take i text) (cc) (Some c.loop-index.value) (numeral, subst (λ v. v < 2 ^ 64) c.loop-index.invariant.1 c.loop-index.invariant.2, c.loop-index.invariant.1) in
    (parts.0, subst (λ l. IsNumberText 64 l c.loop-index.value) parts.1 number, parts.2)

pub returns-in_err-value : goal.returns-in_err-value
returns-in_err-value c =
    rw c.from_residual.ensures
    (no_number_before c.args.text.now c.loop-index.index c.loop-index.value (omega arith) c.loop-index.invariant.0 c.if-octet-eq32.false c.loop-index.invariant.1 c.in_err-value.ensures)

pub returns : goal.returns
returns c =
    let text = c.args.text.now in
    λ _ blank. absurd (no_blank text (λ k less. no_blanks text c.loop-index.index c.loop-index.invariant.0 k (omega arith)) blank)
