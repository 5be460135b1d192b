-- What is read is ASCII, and what is refused is tested for UTF-8.
use Rattle.std.proofs.Common.{◌≡◌, ◌⊎◌, ℕ, List, length, IsUtf8, inl, inr, subst, sym, rules}
use Rattle.babel_text.specs.declared.errors.LineFault.{LineFault}
use Rattle.babel_text.specs.declared.errors.LineFault.TheVariants.{Form}
use Rattle.babel_text.specs.LogLines.{IsActionFault, IsLineFault, Unless}
use Rattle.babel_text.specs.Fields.{HasBlank, before_blank, after_blank}
use Rattle.babel_text.proofs.Ascii.{line_is_utf8}
use Rattle.babel_text.proofs.log_lines.parse_line.Goals as goal

refused : (room : ℕ) (line : List ℕ) (fault found : LineFault) → Unless (HasBlank line) Form (IsActionFault room (before_blank line) (after_blank line)) fault →
    ((¬ (IsUtf8 line)) × (found ≡ Form)) ⊎ (IsUtf8 line × (found ≡ fault)) → IsLineFault room line found
refused room line fault found cause (inl other) = inl other
refused room line fault found cause (inr (utf8, same)) = inr (utf8, subst (λ f. Unless (HasBlank line) Form (IsActionFault room (before_blank line) (after_blank line)) f) (sym same) cause)

pub returns-in-Ok-clause-ok : goal.returns-in-Ok-clause-ok
returns-in-Ok-clause-ok c =
    let blank : HasBlank c.args.line.now = search rules in
    let time = c.in-Ok.ensures.time in
    let action = c.in-Ok.ensures.action in
    (line_is_utf8 (length c.args.octets.now) c.args.line.now c.in-Ok.event.time c.in-Ok.event.action blank time action, blank, time, action)

pub returns-in-Err-clause-refused : goal.returns-in-Err-clause-refused
returns-in-Err-clause-refused c = refused (length c.args.octets.now) c.args.line.now c.in-Err.fault c.utf8_first.result c.in-Err.ensures.refused c.utf8_first.ensures
