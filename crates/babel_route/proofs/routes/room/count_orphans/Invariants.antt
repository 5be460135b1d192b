-- Those before the place are counted.
use Rattle.std.proofs.Common.{◌≡◌, ◌+◌, ◌≤◌, drop}
use Rattle.babel_route.specs.Selections.{orphans}
use Rattle.babel_route.proofs.routes.room.count_orphans.Given as goal

abbrev pub invariant-loop-place : goal.invariant-loop-place
invariant-loop-place g l =
    let es = g.E.Table.entries l.entries in
    let ss = g.S.Table.entries l.selections in
    record {
      counted : l.count + orphans es (drop l.place ss) ≡ orphans es ss;
      few : l.count ≤ l.place;
    }
