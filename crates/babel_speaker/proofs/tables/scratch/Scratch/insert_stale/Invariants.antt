-- Each prefix is passed or still to come, and there is room for those that are still to come. The set is in order.
use Rattle.std.proofs.Common.{◌≡◌, ◌≤◌, ◌+◌, true, length}
use Rattle.std.specs.FinMap.{is_sorted}
use Rattle.babel_value.specs.Orders.{prefix_cmp}
use Rattle.babel_route.specs.Rooms.{most_listed_prefixes}
use Rattle.babel_speaker.proofs.Staleness.{AreDone, size}
use Rattle.babel_speaker.proofs.tables.scratch.Scratch.insert_stale.Given as goal

abbrev pub invariant-loop-prefix : goal.invariant-loop-prefix
invariant-loop-prefix g l = record {
  done : AreDone l.sources (g.C.Costs.cost_of l.costs) l.announced l.routes l.self l.walk;
  room : length l.self + size l.walk ≤ most_listed_prefixes;
  sorted : is_sorted prefix_cmp l.self ≡ true;
}

abbrev pub decreases-loop-prefix : goal.decreases-loop-prefix
decreases-loop-prefix g l = size l.walk
