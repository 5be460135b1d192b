-- If no selected route is due, nothing is selected again.
use Rattle.std.proofs.Common.{◌∙◌}
use Rattle.babel_speaker.proofs.Losses.{still_lost}
use Rattle.babel_speaker.proofs.RoutesKept.{expired_routes}
use Rattle.babel_speaker.proofs.state.speaker_core.Core.expire_routes.Goals as goal

pub returns-clause-kept : goal.returns-clause-kept
returns-clause-kept c quiet =
    expired_routes c.args.now c.args.self.now c.tick_routes.new.self c.reselect_lost.new.self c.tick_routes.ensures.state (c.reselect_lost.ensures.quiet quiet)

pub returns-clause-found : goal.returns-clause-found
returns-clause-found c = c.reselect_lost.ensures.found ∙ still_lost c.args.now c.args.self.now c.tick_routes.new.self c.tick_routes.ensures.state
