-- A slot that is written over is its item.
use Rattle.babel_table.proofs.gap.GapVecTuple2Sequence.set.Goals as goal

pub returns-clause-items : goal.returns-clause-items
returns-clause-items g c = c.slot-slot.ensures.written (c.args.key, c.args.value)
