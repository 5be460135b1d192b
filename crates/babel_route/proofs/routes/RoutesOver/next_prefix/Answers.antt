-- The least of both is the lesser of the two least.
use Rattle.std.proofs.Common.{ap, option_map, ◌∙◌}
use Rattle.babel_route.specs.Selections.{RoutesValue, prefix_after}
use Rattle.babel_route.proofs.BeyondLemmas.{prefix_after_both}
use Rattle.babel_route.proofs.routes.RoutesOver.next_prefix.Goals as goal

pub returns : goal.returns
returns g c =
    let inside = c.self.inside in
    let routes : RoutesValue = record { entries = g.E.Table.entries inside.entries; selections = g.S.Table.entries inside.selections } in
    let route = c.route_prefix_after-route in
    let selection = c.selected_prefix_after-selection in
    c.lesser_prefix.ensures
    ∙ prefix_after_both c.copied.result routes.entries routes.selections route.result selection.result route.ensures selection.ensures
    ∙ ap (λ after. prefix_after after routes) c.copied.ensures
    ∙ ap (prefix_after (option_map (λ prefix. prefix.now) c.args.after)) c.self.view_is
