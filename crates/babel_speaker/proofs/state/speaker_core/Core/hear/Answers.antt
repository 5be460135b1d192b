-- If no neighbour is flushed and the cost of the link is what it was, nothing changed. A flush
-- loses the routes of the neighbour alone.
use Rattle.std.proofs.Common.{sym, ◌∙◌}
use Rattle.babel_speaker.proofs.Settling.{heard_current}
use Rattle.babel_state.proofs.KeptRoutes.{hello_routes}
use Rattle.babel_speaker.proofs.LinkChanges.{hello_cost, hello_others}
use Rattle.babel_speaker.proofs.Losses.{flushed_unless}
use Rattle.babel_speaker.proofs.state.speaker_core.Core.hear.Goals as goal

pub returns-in-Kept-clause-nothing : goal.returns-in-Kept-clause-nothing
returns-in-Kept-clause-nothing c nothing current =
    heard_current c.args.arrival.now.time c.args.arrival.now.peer c.args.hello.now.unicast c.args.hello.now.seqno c.args.hello.now.interval c.args.self.now c.take_hello.new.self c.in-Ok.ensures.ok (sym c.in-Ok.ensures.heard ∙ c.in-Kept.is)
    (hello_cost c.args.arrival.now.time c.args.arrival.now.peer c.args.hello.now.unicast c.args.hello.now.seqno c.args.hello.now.interval c.args.self.now c.take_hello.new.self c.in-Ok.ensures.ok (c.in-Ok.ensures.kept (c.change_of.ensures.nothing.0 nothing))) current

pub returns-in-Kept-clause-kept : goal.returns-in-Kept-clause-kept
returns-in-Kept-clause-kept c nothing =
    hello_routes c.args.arrival.now.time c.args.arrival.now.peer c.args.hello.now.unicast c.args.hello.now.seqno c.args.hello.now.interval c.args.self.now c.take_hello.new.self c.in-Ok.ensures.ok (sym c.in-Ok.ensures.heard ∙ c.in-Kept.is)
    (hello_cost c.args.arrival.now.time c.args.arrival.now.peer c.args.hello.now.unicast c.args.hello.now.seqno c.args.hello.now.interval c.args.self.now c.take_hello.new.self c.in-Ok.ensures.ok (c.in-Ok.ensures.kept (c.change_of.ensures.nothing.0 nothing)))

pub returns-in-Kept-clause-cost : goal.returns-in-Kept-clause-cost
returns-in-Kept-clause-cost c changed current =
    hello_others c.args.arrival.now.time c.args.arrival.now.peer c.args.hello.now.unicast c.args.hello.now.seqno c.args.hello.now.interval c.args.self.now c.take_hello.new.self c.in-Ok.ensures.ok (sym c.in-Ok.ensures.heard ∙ c.in-Kept.is) current

pub returns-in-Flush-clause-routes : goal.returns-in-Flush-clause-routes
returns-in-Flush-clause-routes c flushed current =
    flushed_unless c.args.arrival.now.time c.args.arrival.now.peer c.args.hello.now.unicast c.args.hello.now.seqno c.args.hello.now.interval c.args.self.now c.take_hello.new.self c.in-Ok.ensures.ok (sym c.in-Ok.ensures.heard ∙ c.in-Flush.is) current
