-- The slot has the item.
use Rattle.std.proofs.Common.{sym, ◌∙◌, arith}
use Rattle.std.proofs.lemmas.Option.{slice_get_read}
use Rattle.babel_table.proofs.gap.GapVecTuple2Sequence.item.Goals as goal

pub returns : goal.returns
returns g c =
    let s = c.args.self.now in
    sym c.slot.ensures.item ∙ slice_get_read s.slots.items s.slots.len c.slot.result c.index.result.now (omega arith) c.slot.ensures.within c.index.ensures
