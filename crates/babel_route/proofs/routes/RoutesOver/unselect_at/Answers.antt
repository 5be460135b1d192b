-- A selection that goes takes no place.
use Rattle.std.proofs.Common.{None, ◌∙◌}
use Rattle.babel_route.proofs.RoomLemmas.{selected_within}
use Rattle.babel_route.proofs.routes.RoutesOver.unselect_at.Goals as goal

pub invariant_of-self : goal.invariant_of-self
invariant_of-self g c =
    let old = c.self.inside in
    let kept = c.self.invariant in
    (kept.0, c.remove_at.ensures.room ∙ kept.1, selected_within old.taken c.args.prefix.now None (g.E.Table.entries old.entries) (g.S.Table.entries old.selections) (g.S.Table.entries c.remove_at.new.self) (λ some. cc) c.remove_at.ensures.entries kept.2, kept.3, kept.4)
