-- Without a selection, or with that of another neighbour, nothing changes.
use Rattle.std.proofs.Common.{◌≡◌, ◌∙◌, sym, ap, Some, option_map}
use Rattle.std.specs.FinMap.{find}
use Rattle.babel_value.specs.Orders.{prefix_cmp}
use Rattle.babel_value.proofs.OrderLaws.{prefix_total, prefix_exact}
use Rattle.babel_table.proofs.LookupLemmas.{with_value_same}
use Rattle.babel_route.specs.Repeats.{refreshed}
use Rattle.babel_route.proofs.RefreshLemmas.{refreshed_other}
use Rattle.babel_route.proofs.routes.refresh.refresh_selection.Goals as goal

pub returns-in_default-clause-entries : goal.returns-in_default-clause-entries
returns-in_default-clause-entries g c =
    let es = g.S.Table.entries c.args.selections.now in
    let new = option_map (refreshed c.args.key.now.peer c.args.deadline) in
    sym (with_value_same prefix_cmp prefix_total prefix_exact c.args.key.now.prefix (new (find prefix_cmp c.args.key.now.prefix es)) es (g.met.S.Table.ordered c.args.selections.now)
    (sym c.in_default.ensures.value ∙ ap new c.in_default.ensures.value))

pub returns-else-is_of-clause-entries : goal.returns-else-is_of-clause-entries
returns-else-is_of-clause-entries g c =
    let es = g.S.Table.entries c.args.selections.now in
    let new = option_map (refreshed c.args.key.now.peer c.args.deadline) in
    let same : refreshed c.args.key.now.peer c.args.deadline c.in-Some.before ≡ c.in-Some.before = refreshed_other c.args.key.now.peer c.args.deadline c.in-Some.before (sym c.if-is_of.ensures) in
    sym (with_value_same prefix_cmp prefix_total prefix_exact c.args.key.now.prefix (new (find prefix_cmp c.args.key.now.prefix es)) es (g.met.S.Table.ordered c.args.selections.now)
    (sym c.in-Some.ensures.value ∙ ap (λ s. Some s) (sym same) ∙ ap new c.in-Some.ensures.value))
