-- What holds of the distances while they are shortened.
use Rattle.std.proofs.Common.{◌≡◌, length}
use Rattle.std.specs.Prelude.{vec_len}
use Rattle.std.specs.List.{sum}
use Rattle.babel_simulate.specs.Ways.{AreWays, AreAtOrigins}
use Rattle.babel_simulate.proofs.shortest.shortest_ways.Given as goal

abbrev pub invariant-loop-distances : goal.invariant-loop-distances
invariant-loop-distances l = record {
  each : vec_len l.distances ≡ length l.origins;
  zero : AreAtOrigins l.origins l.distances.items;
  ways : AreWays l.origins l.edges l.distances.items;
}

abbrev pub decreases-loop-distances : goal.decreases-loop-distances
decreases-loop-distances l = sum l.distances.items
