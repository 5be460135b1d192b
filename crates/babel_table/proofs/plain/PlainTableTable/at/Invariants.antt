-- No entry so far has as many lesser keys.
use Rattle.std.proofs.Common.{◌≡◌, ℕ, ◌<◌, Some, slice_get}
use Rattle.babel_table.specs.Entries.{lesser_keys}
use Rattle.babel_table.proofs.plain.PlainTableTable.at.Given as goal

abbrev pub invariant-loop-index : goal.invariant-loop-index
invariant-loop-index g l =
    let es = l.self.entries.items in
    (i : ℕ) → i < l.index → (e : g.row.K.Denot × g.row.V.Denot) → slice_get es i ≡ Some e → lesser_keys g.K.Key.order e.0 es ≡ l.place → ⊥
