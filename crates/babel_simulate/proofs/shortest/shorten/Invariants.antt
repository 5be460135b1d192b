-- What holds once the ways over the first links are shortened.
use Rattle.std.proofs.Common.{◌≡◌, ◌<◌, ◌≤◌, ℕ, List, Bool, length, Some}
use Rattle.std.specs.Prelude.{slice_get}
use Rattle.std.specs.List.{sum}
use Rattle.babel_simulate.specs.Ways.{AreWays, AreLower, IsSettled}
use Rattle.babel_simulate.specs.declared.shortest.Edge.{Edge}
use Rattle.babel_simulate.specs.declared.shortest.Search.TheVariants.{Done, GoesOn}
use Rattle.babel_simulate.proofs.shortest.shorten.Given as goal

abbrev pub invariant-loop-edge : goal.invariant-loop-edge
invariant-loop-edge l = record {
  ways : (origins : List Bool) → length l.fn.distances ≡ length origins → AreWays origins l.edges l.fn.distances → AreWays origins l.edges l.distances;
  lower : AreLower l.fn.distances l.distances;
  total : sum l.distances ≤ sum l.fn.distances;
  goes_on : l.search ≡ GoesOn → sum l.distances < sum l.fn.distances;
  settled : l.search ≡ Done → (k : ℕ) (e : Edge) → k < l.edge-index → slice_get l.edges k ≡ Some e → IsSettled l.distances e;
}
