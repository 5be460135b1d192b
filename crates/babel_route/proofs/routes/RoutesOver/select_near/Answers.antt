-- A selection takes no place, since its prefix has an entry.
use Rattle.std.specs.FinMap.{find}
use Rattle.std.proofs.Common.{arith, ◌∙◌, sym, ap, subst, length, ◌<◌}
use Rattle.babel_value.specs.Orders.{prefix_cmp}
use Rattle.babel_table.specs.Entries.{with_value}
use Rattle.babel_choice.specs.Choices.{Selections, choice}
use Rattle.babel_choice.specs.Origins.{is_own}
use Rattle.babel_route.specs.Selections.{RoutesValue, reselected}
use Rattle.babel_route.proofs.CurrentLemmas.{selects_first, selected_here}
use Rattle.babel_route.proofs.RoomLemmas.{selection_fits_new, selected_within}
use Rattle.babel_route.proofs.routes.RoutesOver.select_near.Goals as goal

pub replace_near-requires : goal.replace_near-requires
replace_near-requires g c =
    let old = c.self.inside in
    let kept = c.self.invariant in
    record { before = c.find_near-before.ensures.value; at = c.find_near-before.ensures.at; gap = c.find_near-before.ensures.gap; room = λ some none. subst (λ room. length (g.S.Table.entries old.selections) < room) (sym kept.1) (selection_fits_new c.args.prefix.now (g.E.Table.entries old.entries) (g.S.Table.entries old.selections) (g.met.S.Table.ordered old.selections) (c.choose-after.ensures.known some) none (omega (arith, kept.2, kept.4))) }

pub invariant_of-self : goal.invariant_of-self
invariant_of-self g c =
    let old = c.self.inside in
    let kept = c.self.invariant in
    (kept.0, c.replace_near.ensures.room ∙ kept.1, selected_within old.taken c.args.prefix.now c.choose-after.result (g.E.Table.entries old.entries) (g.S.Table.entries old.selections) (g.S.Table.entries c.replace_near.new.selections) c.choose-after.ensures.known c.replace_near.ensures.entries kept.2, kept.3, kept.4)

pub returns-clause-first : goal.returns-clause-first
returns-clause-first g c =
    let sources = c.args.sources.now in
    let cost = g.C.Costs.cost_of c.args.costs.now in
    let prefix = c.args.prefix.now in
    let local = is_own c.args.origin in
    let es = g.E.Table.entries c.self.inside.entries in
    let ss = g.S.Table.entries c.self.inside.selections in
    let new : RoutesValue = record { entries = es; selections = g.S.Table.entries c.replace_near.new.selections } in
    let chosen = c.choose-after.ensures.choice ∙ ap (λ before. choice sources cost prefix local before es) c.find_near-before.ensures.value in
    let selections = c.replace_near.ensures.entries ∙ ap (λ value. with_value prefix_cmp prefix value ss) chosen in
    selects_first sources cost prefix local c.args.self.now new
    (ap (λ (xs : Selections). record { entries = es; selections = xs }) selections ∙ ap (reselected sources cost prefix local) c.self.view_is)

pub returns-clause-selected : goal.returns-clause-selected
returns-clause-selected g c =
    let prefix = c.args.prefix.now in
    c.copy_of-2.ensures
    ∙ sym (ap (find prefix_cmp prefix) c.replace_near.ensures.entries ∙ selected_here prefix c.choose-after.result (g.S.Table.entries c.self.inside.selections))
