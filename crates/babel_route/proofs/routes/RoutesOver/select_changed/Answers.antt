-- A selection takes no place, since its prefix has an entry.
use Rattle.std.proofs.Common.{arith, ◌≡◌, true, ◌∙◌, sym, ap, subst, refl, IsNone, IsSome, length, ◌<◌, option_map}
use Rattle.std.specs.FinMap.{find}
use Rattle.babel_value.specs.Orders.{prefix_cmp}
use Rattle.babel_table.proofs.PlaceLemmas.{missing}
use Rattle.babel_choice.specs.Choices.{has_entry, preference, selection_of}
use Rattle.babel_choice.specs.Origins.{is_own}
use Rattle.babel_choice.proofs.ChoiceLemmas.{candidate_is_known}
use Rattle.babel_route.specs.SelectionChanges.{selection_change, selection_from}
use Rattle.babel_route.specs.Selections.{selection_at}
use Rattle.babel_route.proofs.CurrentLemmas.{selected_here}
use Rattle.babel_route.proofs.ChangeLemmas.{none_of}
use Rattle.babel_route.proofs.RoomLemmas.{selection_fits_new, selected_within}
use Rattle.babel_route.proofs.routes.RoutesOver.select_changed.Goals as goal

pub insert_at-requires-clause-room : goal.insert_at-requires-clause-room
insert_at-requires-clause-room g c = λ some.
    let old = c.self.inside in
    let kept = c.self.invariant in
    let prefix = c.args.prefix.now in
    let es = g.E.Table.entries old.entries in
    let ss = g.S.Table.entries old.selections in
    let cost = g.C.Costs.cost_of c.args.costs.now in
    let known = candidate_is_known c.args.sources.now cost (preference cost c.selected_peer_near-before.result) prefix (is_own c.args.origin) es (subst IsSome (ap (option_map selection_of) c.choose_place-chosen.ensures) some) in
    let gap = c.selected_peer_near-before.ensures.gap (none_of c.selected_peer_near-before.result (sym c.if-is_some-2.ensures)) in
    let none = subst IsNone (missing prefix_cmp prefix ss c.selected_peer_near-before.new.near gap) refl in
    subst (λ room. length ss < room) (sym kept.1) (selection_fits_new prefix es ss (g.met.S.Table.ordered old.selections) known none (omega (arith, kept.2, kept.4)))

pub invariant_of-self : goal.invariant_of-self
invariant_of-self g c =
    let old = c.self.inside in
    let kept = c.self.invariant in
    let prefix = c.args.prefix.now in
    let es = g.E.Table.entries old.entries in
    let cost = g.C.Costs.cost_of c.args.costs.now in
    let known : IsSome (selection_from c.choose_place-chosen.result es) → has_entry es prefix ≡ true = λ some. candidate_is_known c.args.sources.now cost (preference cost c.selected_peer_near-before.result) prefix (is_own c.args.origin) es (subst IsSome (ap (option_map selection_of) c.choose_place-chosen.ensures) some) in
    (kept.0, c.exchange_at.ensures.room ∙ kept.1, selected_within old.taken prefix (selection_from c.choose_place-chosen.result es) es (g.S.Table.entries old.selections) (g.S.Table.entries c.exchange_at.new.selections) known c.exchange_at.ensures.entries kept.2, kept.3, kept.4)

pub invariant_of-self-else-is_some-2 : goal.invariant_of-self-else-is_some-2
invariant_of-self-else-is_some-2 g c =
    let old = c.self.inside in
    let kept = c.self.invariant in
    let prefix = c.args.prefix.now in
    let es = g.E.Table.entries old.entries in
    let cost = g.C.Costs.cost_of c.args.costs.now in
    let known : IsSome (selection_from c.choose_place-chosen.result es) → has_entry es prefix ≡ true = λ some. candidate_is_known c.args.sources.now cost (preference cost c.selected_peer_near-before.result) prefix (is_own c.args.origin) es (subst IsSome (ap (option_map selection_of) c.choose_place-chosen.ensures) some) in
    (kept.0, c.insert_at.ensures.room ∙ kept.1, selected_within old.taken prefix (selection_from c.choose_place-chosen.result es) es (g.S.Table.entries old.selections) (g.S.Table.entries c.insert_at.new.selections) known c.insert_at.ensures.entries kept.2, kept.3, kept.4)

pub returns-then-is_some-2-clause-change : goal.returns-then-is_some-2-clause-change
returns-then-is_some-2-clause-change g c =
    let prefix = c.args.prefix.now in
    let here = sym (ap (find prefix_cmp prefix) c.exchange_at.ensures.entries ∙ selected_here prefix (selection_from c.choose_place-chosen.result (g.E.Table.entries c.self.inside.entries)) (g.S.Table.entries c.self.inside.selections)) in
    c.exchange_at.ensures.change ∙ (λ i. selection_change (selection_at prefix (c.self.view_is i)) (here i))

pub returns-else-is_some-2-clause-change : goal.returns-else-is_some-2-clause-change
returns-else-is_some-2-clause-change g c =
    let prefix = c.args.prefix.now in
    let here = sym (ap (find prefix_cmp prefix) c.insert_at.ensures.entries ∙ selected_here prefix (selection_from c.choose_place-chosen.result (g.E.Table.entries c.self.inside.entries)) (g.S.Table.entries c.self.inside.selections)) in
    c.insert_at.ensures.change ∙ (λ i. selection_change (selection_at prefix (c.self.view_is i)) (here i))
