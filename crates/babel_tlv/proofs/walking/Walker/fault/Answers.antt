-- Octets are left and no TLV is first among them, so the walk has come to the fault.
use Rattle.std.proofs.Common.{◌<◌, ◌∙◌, sym, ap, length, drop, length-drop, arith}
use Rattle.babel_tlv.specs.Place.{fault_reached}
use Rattle.babel_tlv.proofs.Steps.{reached-stuck, mapped-None}
use Rattle.babel_tlv.proofs.walking.Walker.fault.Goals as goal

pub returns-clause-value : goal.returns-clause-value
returns-clause-value c =
    let bytes = c.self.inside.bytes.now in
    let o = c.self.inside.offset in
    let left : 0 < length (drop o bytes) = omega (arith, length-drop o bytes) in
    let none = mapped-None _ c.first_at.result _ c.first_at.ensures.value (sym c.is_some.ensures ∙ c.if-is_some.false) in
    sym (reached-stuck o (drop o bytes) left none) ∙ ap fault_reached c.self.view_is
