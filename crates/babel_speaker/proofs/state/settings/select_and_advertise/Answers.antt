-- What is queued changes no route, and the same is reported of what is alike.
use Rattle.babel_state.specs.Reselection.{updates_to_all}
use Rattle.babel_speaker.proofs.RoutesKept.{advertised_routes, reported_alike}
use Rattle.babel_speaker.proofs.state.settings.select_and_advertise.Goals as goal

pub returns-clause-kept : goal.returns-clause-kept
returns-clause-kept c alike =
    advertised_routes c.args.prefix.now c.args.core.now c.select_with-change.new.self c.queue_updates_to_all.new.self (updates_to_all c.args.prefix.now c.select_with-change.new.self)
    c.select_with-change.result c.select_with-change.ensures.state c.select_with-change.ensures.change alike c.queue_updates_to_all.ensures

pub returns-clause-exact : goal.returns-clause-exact
returns-clause-exact c kept =
    reported_alike c.args.prefix.now c.args.core.now c.select_with-change.new.self c.queue_updates_to_all.new.self (updates_to_all c.args.prefix.now c.select_with-change.new.self)
    c.select_with-change.result c.select_with-change.ensures.change c.queue_updates_to_all.ensures kept
