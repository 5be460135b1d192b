-- A retraction takes no place, and changes nothing where the neighbour told nothing.
use Rattle.std.proofs.Common.{◌≡◌, ◌∙◌, sym, ap, subst}
use Rattle.babel_choice.specs.Routes.{retracted_from, retracted_all}
use Rattle.babel_route.specs.Selections.{RoutesValue}
use Rattle.babel_route.proofs.RoomLemmas.{revised_within}
use Rattle.babel_route.proofs.RetractionLemmas.{nothing_retracted}
use Rattle.babel_route.proofs.routes.RoutesOver.retract_all.Goals as goal

pub invariant_of-self : goal.invariant_of-self
invariant_of-self g c =
    let old = c.self.inside in
    let kept = c.self.invariant in
    (c.revise_dues-self-inside.ensures.room ∙ kept.0, kept.1, revised_within old.taken (retracted_from c.args.now c.args.peer.now) (g.E.Table.entries old.entries) (g.E.Table.entries c.revise_dues-self-inside.new.table) (g.S.Table.entries old.selections) (g.met.S.Table.ordered old.selections) c.revise_dues-self-inside.ensures.entries kept.2, c.revise_dues-self-inside.ensures.due, kept.4)

pub returns-else-found-clause-routes : goal.returns-else-found-clause-routes
returns-else-found-clause-routes g c =
    let now = c.args.now in
    let peer = c.args.peer.now in
    let es = g.E.Table.entries c.self.inside.entries in
    let none = sym c.has_routes_from-found.ensures ∙ c.if-found.false in
    subst (λ (r : RoutesValue). r ≡ record { entries = retracted_all now peer r.entries; selections = r.selections }) c.self.view_is
    (ap (λ fs. record { entries = fs; selections = g.S.Table.entries c.self.inside.selections }) (sym (nothing_retracted now peer es none)))
