-- The selection of each prefix that was passed is current.
use Rattle.std.proofs.Common.{[]}
use Rattle.babel_speaker.proofs.Staleness.{AreDone, size}
use Rattle.babel_speaker.proofs.ticks.deadlines.none_is_stale.Given as goal

abbrev pub invariant-loop-prefix : goal.invariant-loop-prefix
invariant-loop-prefix g l = AreDone l.sources (g.C.Costs.cost_of l.costs) l.announced l.routes [] l.walk

abbrev pub decreases-loop-prefix : goal.decreases-loop-prefix
decreases-loop-prefix g l = size l.walk
