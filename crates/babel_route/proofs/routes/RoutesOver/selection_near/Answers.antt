-- The selection at the index, or there is none.
use Rattle.std.proofs.Common.{option_map, refl, sym, ap, ◌∙◌}
use Rattle.std.specs.FinMap.{find}
use Rattle.babel_value.specs.Prefixes.{PrefixValue}
use Rattle.babel_value.specs.Orders.{prefix_cmp}
use Rattle.babel_value.proofs.OrderLaws.{prefix_total}
use Rattle.babel_table.proofs.PlaceLemmas.{find_hit, missing}
use Rattle.babel_choice.specs.declared.entries.Selection.{Selection}
use Rattle.babel_route.specs.Selections.{RoutesValue}
use Rattle.babel_route.proofs.routes.RoutesOver.selection_near.Goals as goal

pub returns-then-not-seek_near : goal.returns-then-not-seek_near
returns-then-not-seek_near g c =
    let prefix = c.args.prefix.now in
    missing prefix_cmp prefix (g.S.Table.entries c.self.inside.selections) c.seek_near.new.near (c.if-not-seek_near.ensures.gap refl)
    ∙ ap (λ (routes : RoutesValue). find prefix_cmp prefix routes.selections) c.self.view_is

pub returns : goal.returns
returns g c =
    let prefix = c.args.prefix.now in
    let table = c.self.inside.selections in
    let at = c.if-not-seek_near.ensures.at refl in
    ap (option_map (λ (e : PrefixValue × Selection). e.1)) (c.at.ensures ∙ at.1)
    ∙ sym (find_hit prefix_cmp prefix_total (g.S.Table.entries table) c.seek_near.new.near (prefix, at.0) (g.met.S.Table.ordered table) at.1)
    ∙ ap (λ (routes : RoutesValue). find prefix_cmp prefix routes.selections) c.self.view_is
