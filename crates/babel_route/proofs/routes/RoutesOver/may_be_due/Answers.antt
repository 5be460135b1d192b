-- Before the least moment no route is due.
use Rattle.std.proofs.Common.{◌≡◌, subst}
use Rattle.std.proofs.lemmas.Bool.{leb-false}
use Rattle.babel_choice.specs.Routes.{expired}
use Rattle.babel_route.specs.Selections.{RoutesValue}
use Rattle.babel_route.proofs.DueLemmas.{quiet_expiry}
use Rattle.babel_route.proofs.routes.RoutesOver.may_be_due.Goals as goal

pub returns : goal.returns
returns g c = λ early.
    let inside = c.self.inside in
    subst (λ (r : RoutesValue). expired c.args.now r.entries ≡ r.entries) c.self.view_is
    (quiet_expiry c.args.now inside.due (g.E.Table.entries inside.entries) (leb-false inside.due c.args.now early) c.self.invariant.3)
