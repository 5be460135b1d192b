-- An expiry takes no place.
use Rattle.std.proofs.Common.{◌∙◌}
use Rattle.babel_choice.specs.Routes.{expired_entry}
use Rattle.babel_route.proofs.RoomLemmas.{revised_within}
use Rattle.babel_route.proofs.routes.RoutesOver.expire.Goals as goal

pub invariant_of-self : goal.invariant_of-self
invariant_of-self g c =
    let old = c.self.inside in
    let kept = c.self.invariant in
    (c.revise_dues-self-inside.ensures.room ∙ kept.0, kept.1, revised_within old.taken (expired_entry c.args.now) (g.E.Table.entries old.entries) (g.E.Table.entries c.revise_dues-self-inside.new.table) (g.S.Table.entries old.selections) (g.met.S.Table.ordered old.selections) c.revise_dues-self-inside.ensures.entries kept.2, c.revise_dues-self-inside.ensures.due, kept.4)
