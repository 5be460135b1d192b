-- If the cost of the link is what it was, nothing changed.
use Rattle.babel_speaker.proofs.Settling.{ihu_current_to}
use Rattle.babel_state.proofs.KeptRoutes.{ihu_routes}
use Rattle.babel_speaker.proofs.LinkChanges.{ihu_cost, ihu_others}
use Rattle.babel_speaker.proofs.state.speaker_core.Core.hear_ihu.Goals as goal

pub returns-clause-nothing : goal.returns-clause-nothing
returns-clause-nothing c nothing current =
    ihu_current_to c.args.now c.args.peer.now c.args.rxcost c.args.interval c.args.self.now c.take_ihu.new.self c.take_ihu.ensures.state
    (ihu_cost c.args.now c.args.peer.now c.args.rxcost c.args.interval c.args.self.now c.take_ihu.new.self c.take_ihu.ensures.state (c.take_ihu.ensures.kept (c.change_of.ensures.nothing.0 nothing))) current

pub returns-clause-kept : goal.returns-clause-kept
returns-clause-kept c nothing =
    ihu_routes c.args.now c.args.peer.now c.args.rxcost c.args.interval c.args.self.now c.take_ihu.new.self c.take_ihu.ensures.state
    (ihu_cost c.args.now c.args.peer.now c.args.rxcost c.args.interval c.args.self.now c.take_ihu.new.self c.take_ihu.ensures.state (c.take_ihu.ensures.kept (c.change_of.ensures.nothing.0 nothing)))

pub returns-clause-cost : goal.returns-clause-cost
returns-clause-cost c current =
    ihu_others c.args.now c.args.peer.now c.args.rxcost c.args.interval c.args.self.now c.take_ihu.new.self c.take_ihu.ensures.state current
