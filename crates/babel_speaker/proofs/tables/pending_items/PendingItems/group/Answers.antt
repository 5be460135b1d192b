-- A run is one group.
use Rattle.std.proofs.Common.{sym, ap, ◌∙◌}
use Rattle.babel_state.specs.Grouping.{in_groups}
use Rattle.babel_state.specs.Queueing.{Pending}
use Rattle.babel_speaker.proofs.Groups.{run_stays}
use Rattle.babel_speaker.proofs.tables.pending_items.PendingItems.group.Goals as goal

pub returns-else-is_empty : goal.returns-else-is_empty
returns-else-is_empty c =
    let old = c.self.inside in
    let no_items = c.self.invariant (c.is_empty.ensures.some c.if-is_empty.false) in
    sym c.self.view_is
    ∙ (λ i. record { items = run_stays old.items old.target old.run no_items i; dropped = old.dropped })
    ∙ ap (λ (p : Pending). record p { items = in_groups 64 p.items }) c.self.view_is
