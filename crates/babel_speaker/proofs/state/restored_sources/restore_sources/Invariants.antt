-- The sources before the index are in the table.
use Rattle.std.proofs.Common.{◌≡◌, take}
use Rattle.babel_state.specs.Restarts.{restored_sources}
use Rattle.babel_speaker.proofs.state.restored_sources.restore_sources.Given as goal

abbrev pub invariant-loop-index : goal.invariant-loop-index
invariant-loop-index l = l.sources ≡ restored_sources l.now (take l.index l.saved.sources)
