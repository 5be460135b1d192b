-- What is left of the list has what the whole list has at the key, and each entry so far was a step.
use Rattle.std.proofs.Common.{◌≡◌, ◌+◌, ◌≤◌, drop}
use Rattle.std.specs.FinMap.{find}
use Rattle.babel_table.proofs.plain.search.Given as goal

abbrev pub invariant-loop-index : goal.invariant-loop-index
invariant-loop-index g l =
    let es = l.table.entries.items in
    (find g.K.Key.order (g.S.Sought.key l.key) (drop l.index es) ≡ find g.K.Key.order (g.S.Sought.key l.key) es)
    × (l.steps ≤ l.initial.steps + l.index)
