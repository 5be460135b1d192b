-- The prefix had the selection at the index.
use Rattle.std.proofs.Common.{refl, sym, ap, ◌∙◌, option_map}
use Rattle.babel_value.specs.Orders.{prefix_cmp}
use Rattle.babel_table.specs.Entries.{with_value}
use Rattle.babel_choice.specs.Choices.{selection_of}
use Rattle.babel_route.specs.SelectionChanges.{selection_change}
use Rattle.babel_route.proofs.ChangeLemmas.{found_at, same_change, stays}
use Rattle.babel_route.proofs.routes.current.exchange_at.Goals as goal

pub returns-in_default-route_from-clause-change : goal.returns-in_default-route_from-clause-change
returns-in_default-route_from-clause-change g c =
    let found = found_at c.args.prefix.now (g.S.Table.entries c.args.selections.now) c.args.place c.in-Some.old (g.met.S.Table.ordered c.args.selections.now) c.requires.at c.in-Some.ensures in
    c.loss_of.ensures ∙ (λ i. selection_change (sym found i) (option_map selection_of (c.in_default-route_from.ensures i)))

pub returns-then-is_selection_of-clause-change : goal.returns-then-is_selection_of-clause-change
returns-then-is_selection_of-clause-change g c =
    let found = found_at c.args.prefix.now (g.S.Table.entries c.args.selections.now) c.args.place c.in-Some.old (g.met.S.Table.ordered c.args.selections.now) c.requires.at c.in-Some.ensures in
    c.kept-then-is_selection_of.ensures ∙ same_change c.in-Some.old.1 (selection_of c.in-Some-route_from.new) (c.if-is_selection_of.ensures refl)
    ∙ (λ i. selection_change (sym found i) (option_map selection_of (c.in-Some-route_from.ensures i)))

pub returns-then-is_selection_of-clause-entries : goal.returns-then-is_selection_of-clause-entries
returns-then-is_selection_of-clause-entries g c =
    let ss = g.S.Table.entries c.args.selections.now in
    let found = found_at c.args.prefix.now ss c.args.place c.in-Some.old (g.met.S.Table.ordered c.args.selections.now) c.requires.at c.in-Some.ensures in
    stays c.args.prefix.now ss c.in-Some.old.1 (selection_of c.in-Some-route_from.new) (g.met.S.Table.ordered c.args.selections.now) found (c.if-is_selection_of.ensures refl)
    ∙ ap (λ route. with_value prefix_cmp c.args.prefix.now (option_map selection_of route) ss) c.in-Some-route_from.ensures

pub returns-clause-change : goal.returns-clause-change
returns-clause-change g c =
    let found = found_at c.args.prefix.now (g.S.Table.entries c.args.selections.now) c.args.place c.in-Some.old (g.met.S.Table.ordered c.args.selections.now) c.requires.at c.in-Some.ensures in
    c.change_to.ensures ∙ (λ i. selection_change (sym found i) (option_map selection_of (c.in-Some-route_from.ensures i)))
