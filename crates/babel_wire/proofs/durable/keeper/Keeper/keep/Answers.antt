use Rattle.std.proofs.Common.{◌∙◌, sym, true≢false}
use Rattle.babel_wire.proofs.Keepings.{keeping_not_made, keeping_done, keeping_failed}
use Rattle.babel_wire.proofs.durable.keeper.Keeper.keep.Goals as goal

pub returns-in_default-clause-kept : goal.returns-in_default-clause-kept
returns-in_default-clause-kept g c =
    keeping_not_made c.args.speaker.now c.args.self.now (g.W.Wire.history c.args.wire.now) c.snapshot_version-version.result c.snapshot_version-version.ensures
    (λ kept. true≢false (sym (c.has_kept.ensures.1 kept) ∙ c.if-has_kept.false))

pub returns-in-Ok-keep-clause-kept : goal.returns-in-Ok-keep-clause-kept
returns-in-Ok-keep-clause-kept g c =
    keeping_done c.args.speaker.now c.args.self.now (g.W.Wire.history c.args.wire.now) c.snapshot_version-version.result c.snapshot_version-version.ensures
    (λ kept. true≢false (sym (c.has_kept.ensures.1 kept) ∙ c.if-has_kept.false))
    c.in-Ok.octets.items c.deref.result.now c.in-Ok.ensures.ok c.in-Ok.ensures.restorable c.deref.ensures.value (g.W.Wire.history c.keep.new.self)
    c.in-Ok-keep.ensures.history

pub returns-clause-kept : goal.returns-clause-kept
returns-clause-kept g c =
    keeping_failed c.args.speaker.now c.args.self.now (g.W.Wire.history c.args.wire.now) c.snapshot_version-version.result c.snapshot_version-version.ensures
    (λ kept. true≢false (sym (c.has_kept.ensures.1 kept) ∙ c.if-has_kept.false))
    c.in-Ok.octets.items c.deref.result.now c.in-Ok.ensures.ok c.in-Ok.ensures.restorable c.deref.ensures.value (g.W.Wire.history c.keep.new.self)
    c.in-Err.ensures.history
