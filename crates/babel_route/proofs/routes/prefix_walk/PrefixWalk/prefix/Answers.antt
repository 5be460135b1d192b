-- The lesser of the next route's prefix and the next selection's is the least.
use Rattle.std.proofs.Common.{subst, ap, ◌∙◌}
use Rattle.babel_value.specs.Orders.{prefix_cmp}
use Rattle.babel_table.specs.Firsts.{lesser_of}
use Rattle.babel_route.specs.Selections.{RoutesValue}
use Rattle.babel_route.proofs.PrefixWalkLemmas.{IsLeast, is_least, least_none, least_among, least_from}
use Rattle.babel_route.proofs.routes.prefix_walk.PrefixWalk.prefix.Goals as goal

pub returns : goal.returns
returns g c =
    let walk = c.self.inside in
    let routes = c.args.self.now in
    let prefix = c.lesser_prefix.result in
    let found = c.lesser_prefix.ensures
    ∙ ap (λ route. lesser_of prefix_cmp route c.selected_prefix_at-selection.result) c.route_prefix_at-route.ensures
    ∙ ap (lesser_of prefix_cmp _) c.selected_prefix_at-selection.ensures in
    let least : IsLeast routes prefix = subst (λ (r : RoutesValue). IsLeast r prefix) c.self.view_is
    (is_least (g.E.Table.entries walk.entries.now) (g.S.Table.entries walk.selections.now) walk.entry walk.selection (g.met.E.Table.ordered walk.entries.now) (g.met.S.Table.ordered walk.selections.now) prefix found) in
    record { none = least_none routes prefix least; some = least_among routes prefix least; least = least_from routes prefix least }
