-- The lesser keys so far.
use Rattle.std.proofs.Common.{◌≡◌, take}
use Rattle.babel_table.specs.Entries.{lesser_keys}
use Rattle.babel_table.proofs.plain.lesser_on.Given as goal

abbrev pub invariant-loop-index : goal.invariant-loop-index
invariant-loop-index g l = l.lesser ≡ lesser_keys g.K.Key.order l.key (take l.index l.table.entries.items)
