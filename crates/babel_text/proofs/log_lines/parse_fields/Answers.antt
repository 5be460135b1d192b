use Rattle.std.proofs.Common.{◌≡◌, ℕ, List, Result, length, nat_eq, false, true≢false, codes, IfErr, sym, ap, subst, ◌∙◌, inl, inr, rules}
use Rattle.std.specs.Cmp.Lexicographic.{pointwise}
use Rattle.std.proofs.lemmas.Result.{IfErr-weaker}
use Rattle.babel_text.specs.declared.errors.LineFault.{LineFault}
use Rattle.babel_text.specs.LogLines.{IsWord, IsReceiveFault, IsCostFault, IsWordFault, IsActionFault, Unless}
use Rattle.babel_text.specs.Fields.{HasBlank, before_blank, after_blank}
use Rattle.babel_text.specs.declared.errors.LineFault.TheVariants.{Form}
use Rattle.babel_text.proofs.log_lines.parse_fields.Goals as goal

-- What the reader of the fields after a word refuses is the fault of the line.
line_fault : {E : Type 0} (room : ℕ) (line time rest word fields : List ℕ) (read : Result E LineFault) (Found : LineFault → Type 0)
    → HasBlank line × (time ≡ before_blank line) × (rest ≡ after_blank line) → pointwise nat_eq rest (codes "tick") ≡ false
    → HasBlank rest × (word ≡ before_blank rest) × (fields ≡ after_blank rest) → ((found : LineFault) → Found found → IsWordFault room time word fields found)
    → IfErr read Found → IfErr read (Unless (HasBlank line) Form (IsActionFault room (before_blank line) (after_blank line)))
line_fault room line time rest word fields read Found (parted, time_is, after) other (parted_again, word_is, fields_is) means =
    IfErr-weaker read Found (Unless (HasBlank line) Form (IsActionFault room (before_blank line) (after_blank line))) (λ found h.
    let fault = subst (λ l. IsWordFault room l (before_blank (after_blank line)) (after_blank (after_blank line)) found) time_is
    (subst (λ l. IsWordFault room time l (after_blank (after_blank line)) found) (word_is ∙ ap (λ l. before_blank l) after)
    (subst (λ l. IsWordFault room time word l found) (fields_is ∙ ap (λ l. after_blank l) after) (means found h))) in
    let not_tick = ap (λ l. pointwise nat_eq l (codes "tick")) (sym after) ∙ other in
    inr (parted, inr ((λ tick. true≢false (sym tick ∙ not_tick)), inr (subst (λ l. HasBlank l) after parted_again, fault))))

pub returns-then-eq-2-clause-refused : goal.returns-then-eq-2-clause-refused
returns-then-eq-2-clause-refused c =
    let word : IsWord c.in-Some-split_field.word.now (codes "in") = search rules in
    let time = c.in-Some.time.now in
    let fields = c.in-Some-split_field.fields.now in
    let other : pointwise nat_eq c.in-Some.rest.now (codes "tick") ≡ false = search rules in
    line_fault (length c.args.octets.now) c.args.line.now time c.in-Some.rest.now c.in-Some-split_field.word.now fields c.parse_receive.result
    (IsReceiveFault (length c.args.octets.now) time fields) c.in-Some.ensures other c.in-Some-split_field.ensures (λ found h. inl (word, h)) c.parse_receive.ensures.refused

pub returns-then-eq-3-clause-refused : goal.returns-then-eq-3-clause-refused
returns-then-eq-3-clause-refused c =
    let word : IsWord c.in-Some-split_field.word.now (codes "cost") = search rules in
    let time = c.in-Some.time.now in
    let fields = c.in-Some-split_field.fields.now in
    let other : pointwise nat_eq c.in-Some.rest.now (codes "tick") ≡ false = search rules in
    line_fault (length c.args.octets.now) c.args.line.now time c.in-Some.rest.now c.in-Some-split_field.word.now fields c.parse_cost.result
    (IsCostFault time fields) c.in-Some.ensures other c.in-Some-split_field.ensures (λ found h. inr (inl (word, h))) c.parse_cost.ensures.refused
