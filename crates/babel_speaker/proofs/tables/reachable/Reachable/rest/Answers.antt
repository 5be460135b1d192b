-- Only those of selections are left.
use Rattle.std.proofs.Common.{sym, ◌∙◌}
use Rattle.babel_speaker.proofs.Reaching.{rest_selected}
use Rattle.babel_speaker.proofs.tables.reachable.Reachable.rest.Goals as goal

pub returns-in-None : goal.returns-in-None
returns-in-None c =
    let walk = c.self.inside in
    sym (rest_selected walk.announced.now walk.routes.now.selections walk.own walk.selected c.self.invariant.1 (sym c.in-None.ensures.prefix)) ∙ c.self.view_is
