-- The announced prefixes aren't reported of a route.
use Rattle.std.proofs.Common.{sym, ap}
use Rattle.babel_state.specs.State.{State}
use Rattle.babel_speaker.proofs.RoutesKept.{same_before}
use Rattle.babel_speaker.proofs.state.settings.announce.Goals as goal

pub returns-clause-kept : goal.returns-clause-kept
returns-clause-kept c alike =
    let same = c.core.view_is in
    same_before c.args.core.now _ _ (ap (λ (s : State). s.routes) same) (ap (λ (s : State). s.interfaces) same) (ap (λ (s : State). s.neighbours) same)
    (c.select_and_advertise-report.ensures.kept alike)

pub returns-clause-exact : goal.returns-clause-exact
returns-clause-exact c kept =
    let same = c.core.view_is in
    c.select_and_advertise-report.ensures.exact
    (same_before _ c.args.core.now _ (sym (ap (λ (s : State). s.routes) same)) (sym (ap (λ (s : State). s.interfaces) same)) (sym (ap (λ (s : State). s.neighbours) same)) kept)
