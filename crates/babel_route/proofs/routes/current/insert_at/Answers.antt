-- The prefix had no selection.
use Rattle.std.proofs.Common.{sym, ap, ◌∙◌, option_map}
use Rattle.babel_value.specs.Orders.{prefix_cmp}
use Rattle.babel_value.proofs.OrderLaws.{prefix_total, prefix_exact}
use Rattle.babel_table.proofs.LookupLemmas.{with_value_same}
use Rattle.babel_table.proofs.PlaceLemmas.{missing}
use Rattle.babel_choice.specs.Choices.{selection_of}
use Rattle.babel_route.specs.SelectionChanges.{selection_change}
use Rattle.babel_route.proofs.routes.current.insert_at.Goals as goal

pub returns-in-Some-clause-change : goal.returns-in-Some-clause-change
returns-in-Some-clause-change g c =
    let ss = g.S.Table.entries c.args.selections.now in
    let none = missing prefix_cmp c.args.prefix.now ss c.args.place c.requires.gap in
    λ i. selection_change (none i) (option_map selection_of (c.in-Some.ensures i))

pub returns-in-None-clause-change : goal.returns-in-None-clause-change
returns-in-None-clause-change g c =
    let ss = g.S.Table.entries c.args.selections.now in
    let none = missing prefix_cmp c.args.prefix.now ss c.args.place c.requires.gap in
    c.kept.ensures ∙ (λ i. selection_change (none i) (option_map selection_of (c.in-None.ensures i)))

pub returns-in-None-clause-entries : goal.returns-in-None-clause-entries
returns-in-None-clause-entries g c =
    let ss = g.S.Table.entries c.args.selections.now in
    let chosen = ap (option_map selection_of) c.in-None.ensures in
    sym (with_value_same prefix_cmp prefix_total prefix_exact c.args.prefix.now _ ss (g.met.S.Table.ordered c.args.selections.now) (sym (missing prefix_cmp c.args.prefix.now ss c.args.place c.requires.gap) ∙ chosen))
