-- Storing what is there changes nothing, and a prefix without a selection is left without.
use Rattle.std.proofs.Common.{sym, ◌∙◌}
use Rattle.babel_value.specs.Orders.{prefix_cmp}
use Rattle.babel_value.proofs.OrderLaws.{prefix_total, prefix_exact}
use Rattle.babel_table.proofs.LookupLemmas.{with_value_same}
use Rattle.babel_route.proofs.CurrencyLemmas.{same_selection}
use Rattle.babel_route.proofs.routes.current.replace_near.Goals as goal

pub returns-then-is_same_selection-clause-entries : goal.returns-then-is_same_selection-clause-entries
returns-then-is_same_selection-clause-entries g c =
    let es = g.S.Table.entries c.args.selections.now in
    sym (with_value_same prefix_cmp prefix_total prefix_exact c.args.prefix c.args.after es (g.met.S.Table.ordered c.args.selections.now)
    (sym c.requires.before ∙ same_selection c.args.before.now c.args.after (sym c.if-is_same_selection.ensures)))

pub returns-in-None-None-clause-entries : goal.returns-in-None-None-clause-entries
returns-in-None-None-clause-entries g c =
    let es = g.S.Table.entries c.args.selections.now in
    sym (with_value_same prefix_cmp prefix_total prefix_exact c.args.prefix c.args.after es (g.met.S.Table.ordered c.args.selections.now)
    (sym c.requires.before ∙ c.in-None-None.is-0 ∙ sym c.in-None-None.is-1))
