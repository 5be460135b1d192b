-- The entry has a place already, and so has the selection of its prefix. If that is current, no other choice is due.
use Rattle.std.proofs.Common.{◌≡◌, ◌∙◌, arith, sym, ap, subst, true, option_map, true≢false}
use Rattle.std.specs.FinMap.{find, put}
use Rattle.babel_value.specs.Orders.{prefix_cmp}
use Rattle.babel_choice.specs.RouteKeys.{route_cmp}
use Rattle.babel_choice.specs.Routes.{RouteEntries}
use Rattle.babel_choice.specs.Choices.{has_entry}
use Rattle.babel_route.specs.Selections.{RoutesValue, selection_at, reselected, IsCurrent}
use Rattle.babel_route.specs.Repeats.{is_repeated, refreshed}
use Rattle.babel_route.proofs.CurrentLemmas.{selected_here}
use Rattle.babel_route.proofs.RoomLemmas.{put_within, selected_within}
use Rattle.babel_route.proofs.DueLemmas.{put_due}
use Rattle.babel_route.specs.SelectionChanges.{selection_change}
use Rattle.babel_route.proofs.ChangeLemmas.{kept_change, refreshed_change}
use Rattle.babel_route.proofs.RefreshLemmas.{refresh_reselects, put_has_entry, repeated_is_known}
use Rattle.babel_route.proofs.routes.RoutesOver.refresh_at.Goals as goal

pub invariant_of-self : goal.invariant_of-self
invariant_of-self g c =
    let old = c.self.inside in
    let kept = c.self.invariant in
    let key = c.args.key.now in
    let entry = c.args.entry.now in
    let es = g.E.Table.entries old.entries in
    let ss = g.S.Table.entries old.selections in
    let new_es = g.E.Table.entries c.replace.new.self in
    let new_ss = g.S.Table.entries c.refresh_selection-before.new.selections in
    let repeated : is_repeated entry (find route_cmp key es) ≡ true = subst (λ (r : RoutesValue). is_repeated entry (find route_cmp key r.entries) ≡ true) (sym c.self.view_is) c.requires.repeated in
    let within = put_within old.taken key entry es new_es ss (g.met.E.Table.ordered old.entries) c.replace.ensures.entries (λ none. absurd (true≢false (sym (repeated_is_known entry (find route_cmp key es) repeated) ∙ none))) kept.2 in
    let has = subst (λ (rs : RouteEntries). has_entry rs key.prefix ≡ true) (sym c.replace.ensures.entries) (put_has_entry key.prefix key.peer entry es) in
    let selected = selected_within old.taken key.prefix (option_map (refreshed key.peer entry.deadline) (find prefix_cmp key.prefix ss)) new_es ss new_ss (λ some. has) c.refresh_selection-before.ensures.entries within in
    let quiet = put_due c.min-self-inside.result old.due key entry es new_es (omega (arith, c.min-self-inside.ensures)) (omega (arith, c.min-self-inside.ensures)) c.replace.ensures.entries kept.3 in
    (c.replace.ensures.room ∙ kept.0, c.refresh_selection-before.ensures.room ∙ kept.1, selected, quiet, kept.4)

pub returns-clause-change : goal.returns-clause-change
returns-clause-change g c =
    let key = c.args.key.now in
    let deadline = c.args.entry.now.deadline in
    let ss = g.S.Table.entries c.self.inside.selections in
    let value = option_map (refreshed key.peer deadline) (find prefix_cmp key.prefix ss) in
    let after = sym (ap (find prefix_cmp key.prefix) c.refresh_selection-before.ensures.entries ∙ selected_here key.prefix value ss) in
    c.kept.ensures ∙ ap kept_change c.refresh_selection-before.ensures.peer ∙ refreshed_change key.peer deadline (find prefix_cmp key.prefix ss)
    ∙ (λ i. selection_change (selection_at key.prefix (c.self.view_is i)) (after i))

pub returns-clause-routes : goal.returns-clause-routes
returns-clause-routes g c sources cost local current =
    let key = c.args.key.now in
    let entry = c.args.entry.now in
    let es = g.E.Table.entries c.self.inside.entries in
    let ss = g.S.Table.entries c.self.inside.selections in
    let old : RoutesValue = record { entries = es; selections = ss } in
    let new : RoutesValue = record { entries = g.E.Table.entries c.replace.new.self; selections = g.S.Table.entries c.refresh_selection-before.new.selections } in
    let repeated : is_repeated entry (find route_cmp key es) ≡ true = subst (λ (r : RoutesValue). is_repeated entry (find route_cmp key r.entries) ≡ true) (sym c.self.view_is) c.requires.repeated in
    subst (λ (r : RoutesValue). IsCurrent sources cost key.prefix local r → new ≡ reselected sources cost key.prefix local (record r { entries = put route_cmp key entry r.entries })) c.self.view_is
    (refresh_reselects key.prefix key.peer entry old new (g.met.E.Table.ordered c.self.inside.entries) repeated (λ i. record { entries = c.replace.ensures.entries i; selections = c.refresh_selection-before.ensures.entries i }) sources cost local)
    current
