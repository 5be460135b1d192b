-- What is read has no further blank, and what is refused is searched for one.
use Rattle.std.proofs.Common.{◌≡◌, ◌⊎◌, ℕ, List, length, ◌==◌, sym, ap, subst, ◌∙◌, inl, inr, arith}
use Rattle.std.specs.List.{position_or_len}
use Rattle.std.proofs.lemmas.Bool.{cases_lt}
use Rattle.babel_text.specs.declared.errors.LineFault.{LineFault}
use Rattle.babel_text.specs.declared.errors.LineFault.TheVariants.{Form}
use Rattle.babel_text.specs.declared.log_lines.Action.{Action}
use Rattle.babel_text.specs.declared.log_lines.Action.TheVariants.{Receive, Tick, SetCost}
use Rattle.babel_text.specs.LogLines.{HasThreeFields, IsReceived, IsReceiveText, IsFieldFault, IsReceiveFault}
use Rattle.babel_text.specs.Fields.{HasBlank, before_blank, after_blank}
use Rattle.babel_text.proofs.Blanks.{octets_have_no_blank}
use Rattle.babel_text.proofs.log_lines.parse_receive.Goals as goal

blank_or_none : (text : List ℕ) → HasBlank text ⊎ (¬ (HasBlank text))
blank_or_none text =
    elim (cases_lt (position_or_len (λ octet. octet == 32) text) (length text)) [
      | inl blank ↦ inl blank
      | inr none ↦ inr (λ blank. omega arith)
    ]

-- The fields of a line with two blanks, of which the last may have a further one.
module _ (room : ℕ) (fields iface rest source hex : List ℕ) (one : HasBlank fields × (iface ≡ before_blank fields) × (rest ≡ after_blank fields)) (two : HasBlank rest × (source ≡ before_blank rest) × (hex ≡ after_blank rest)) where
  source_is : source ≡ before_blank (after_blank fields)
  source_is = two.1 ∙ ap (λ l. before_blank l) one.2

  hex_is : hex ≡ after_blank (after_blank fields)
  hex_is = two.2 ∙ ap (λ l. after_blank l) one.2

  three : ¬ (HasBlank hex) → HasThreeFields fields
  three last = (one.0, (subst (λ l. HasBlank l) one.2 two.0, λ further. last (subst (λ l. HasBlank l) (sym hex_is) further)))

  read_last : (action : Action) → IsReceived room iface source hex action → ¬ (HasBlank hex)
  read_last (Receive number addr octets) read = octets_have_no_blank room hex octets.now read.2
  read_last Tick read = absurd read
  read_last (SetCost number cost) read = absurd read

  received : (action : Action) → IsReceived room iface source hex action → IsReceiveText room fields action
  received action read = (
    three (read_last action read),
    subst (λ l. IsReceived room l (before_blank (after_blank fields)) (after_blank (after_blank fields)) action) one.1
        (subst (λ l. IsReceived room iface l (after_blank (after_blank fields)) action) source_is
        (subst (λ l. IsReceived room iface source l action) hex_is read)),
  )

  refused : (time : List ℕ) (fault found : LineFault) → IsFieldFault room time iface source hex fault → (HasBlank hex → found ≡ Form) → ((¬ (HasBlank hex)) → found ≡ fault) → IsReceiveFault room time fields found
  refused time fault found cause further last =
      elim (blank_or_none hex) [
        | inl blank ↦ inl ((λ parted. parted.1.1 (subst (λ l. HasBlank l) hex_is blank)), further blank)
        | inr none ↦ inr (
          three none,
          subst (λ l. IsFieldFault room time l (before_blank (after_blank fields)) (after_blank (after_blank fields)) found) one.1
              (subst (λ l. IsFieldFault room time iface l (after_blank (after_blank fields)) found) source_is
              (subst (λ l. IsFieldFault room time iface source l found) hex_is
              (subst (λ f. IsFieldFault room time iface source hex f) (sym (last none)) cause))),
        )
      ]

pub returns-in-Ok-clause-action : goal.returns-in-Ok-clause-action
returns-in-Ok-clause-action c =
    received (length c.args.octets.now) c.args.fields.now c.in-Some.iface.now c.in-Some.rest.now c.in-Some-split_field.source.now c.in-Some-split_field.hex.now
    c.in-Some.ensures c.in-Some-split_field.ensures c.in-Ok.event.action c.in-Ok.ensures.action

pub returns-in-Err-clause-refused : goal.returns-in-Err-clause-refused
returns-in-Err-clause-refused c =
    refused (length c.args.octets.now) c.args.fields.now c.in-Some.iface.now c.in-Some.rest.now c.in-Some-split_field.source.now c.in-Some-split_field.hex.now
    c.in-Some.ensures c.in-Some-split_field.ensures c.args.time.now c.in-Err.fault c.form_first.result c.in-Err.ensures.refused c.form_first.ensures.further c.form_first.ensures.last
