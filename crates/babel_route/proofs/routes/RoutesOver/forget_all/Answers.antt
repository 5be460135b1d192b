-- One pass forgets what a pass for each of the neighbours forgets, and takes no place.
use Rattle.std.proofs.Common.{ap, ◌∙◌}
use Rattle.babel_table.specs.Entries.{revised_entries}
use Rattle.babel_choice.specs.Routes.{kept_without_each, all_forgotten}
use Rattle.babel_route.specs.Selections.{RoutesValue}
use Rattle.babel_route.proofs.FlushLemmas.{each_forgotten, none_forgotten}
use Rattle.babel_route.proofs.RoomLemmas.{revised_within}
use Rattle.babel_route.proofs.routes.RoutesOver.forget_all.Goals.{then-not-is_empty, else-not-is_empty}
use Rattle.babel_route.proofs.routes.RoutesOver.forget_all.Goals as goal

pub invariant_of-self : goal.invariant_of-self
invariant_of-self g c =
    let old = c.self.inside in
    let kept = c.self.invariant in
    (c.revise_dues-self-inside.ensures.room ∙ kept.0, kept.1, revised_within old.taken (kept_without_each c.new.result.peers.now) (g.E.Table.entries old.entries) (g.E.Table.entries c.revise_dues-self-inside.new.table) (g.S.Table.entries old.selections) (g.met.S.Table.ordered old.selections) c.revise_dues-self-inside.ensures.entries kept.2, c.revise_dues-self-inside.ensures.due, kept.4)

pub returns-clause-routes : goal.returns-clause-routes
returns-clause-routes g c =
    elim c.if-not-is_empty.branch [
      | then-not-is_empty w ↦ w.self-is ∙ (λ i. record {
        entries = (w.revise_dues-self-inside.ensures.entries ∙ ap (λ ps. revised_entries (kept_without_each ps) (g.E.Table.entries c.self.inside.entries)) w.new.ensures ∙ each_forgotten c.args.peers.now (g.E.Table.entries c.self.inside.entries) ∙ ap (λ (r : RoutesValue). all_forgotten c.args.peers.now r.entries) c.self.view_is) i;
        selections = (c.self.view_is i).selections;
      })
      | else-not-is_empty w ↦ w.self-is ∙ ap (λ es. record c.args.self.now { entries = es }) (none_forgotten c.args.peers.now c.args.self.now.entries w.if-not-is_empty.ensures)
    ]
