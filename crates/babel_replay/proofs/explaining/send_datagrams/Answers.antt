use Rattle.std.proofs.Common.{length, refl, None, arith}
use Rattle.babel_speaker.specs.Sending.{draft_at}
use Rattle.babel_replay.proofs.Sending.{sending_begins, sending_goes, fewer_left}
use Rattle.babel_replay.proofs.explaining.send_datagrams.Goals as goal

pub loop-init : goal.loop-init
loop-init c = (sending_begins c.args.time c.args.speaker.now.state None, omega arith)

pub loop-preserved : goal.loop-preserved
loop-preserved c = (
  sending_goes c.loop.counter c.args.time c.args.speaker.now.state c.loop.speaker.state None None c.in-Some._target (length (draft_at c.args.time c.loop.speaker.state).messages)
      c.next_datagram.new.self.state None c.loop.invariant.0 c.in-Some.ensures.target refl c.next_datagram.ensures.state tt,
  fewer_left c.datagrams_take_items.ensures c.loop.counter (length c.args.speaker.now.state.pending.items) c.args.time c.loop.speaker.state c.in-Some._target
      c.next_datagram.new.self.state c.loop.invariant.1 c.in-Some.ensures.target c.next_datagram.ensures.state,
)
