-- The route of the neighbour doesn't take the place of the selection, so a choice among all routes leaves it.
use Rattle.std.proofs.Common.{◌≡◌, ◌∙◌, true, refl, sym, ap, subst}
use Rattle.babel_value.specs.Orders.{prefix_cmp, peer_cmp}
use Rattle.babel_value.proofs.OrderLaws.{prefix_exact, peer_exact}
use Rattle.babel_value.proofs.Orderings.{equal}
use Rattle.babel_choice.specs.Choices.{is_change, overtakes, peer_before}
use Rattle.babel_choice.specs.Routes.{key_of}
use Rattle.babel_route.specs.Selections.{RoutesValue, IsCurrentBut}
use Rattle.babel_route.proofs.OneChangeLemmas.{stays_current}
use Rattle.babel_route.proofs.CurrentLemmas.{unchanged_reselected}
use Rattle.babel_route.proofs.routes.RoutesOver.kept_selection.Goals as goal

pub returns-clause-kept : goal.returns-clause-kept
returns-clause-kept g c = λ some local others.
    let sources = c.args.sources.now in
    let cost = g.C.Costs.cost_of c.args.costs.now in
    let key = c.args.key.now in
    let es = g.E.Table.entries c.self.inside.entries in
    let ss = g.S.Table.entries c.self.inside.selections in
    let routes : RoutesValue = record { entries = es; selections = ss } in
    let found = c.find_near-before.ensures.value in
    let route = c.in_ok-route.route in
    let prefix = prefix_exact route.0.prefix key.prefix (equal (prefix_cmp route.0.prefix key.prefix) c.in_ok-route.ensures.prefix) in
    let peer = peer_exact route.0.peer key.peer (equal (peer_cmp route.0.peer key.peer) c.in_ok-route.ensures.peer) in
    let own : route.0 ≡ key_of key.prefix key.peer = λ i. record { prefix = prefix i; peer = peer i } in
    let other = subst (λ before. is_change (peer_before before) key.peer ≡ true) found (c.in_ok-route.ensures.other refl) in
    let worse = c.if-overtakes.ensures ∙ ap (λ before. overtakes sources cost before route) found in
    let current = stays_current sources cost key.peer key.prefix local routes c.args.cursor.now.entry route (g.met.E.Table.ordered c.self.inside.entries) c.in_ok-route.ensures.at own other worse (subst (IsCurrentBut sources cost key.peer key.prefix local) (sym c.self.view_is) others) in
    unchanged_reselected sources cost key.prefix local routes c.args.self.now (g.met.S.Table.ordered c.self.inside.selections) c.self.view_is current
