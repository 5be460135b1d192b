use Rattle.babel_wire.proofs.Takings.{taking_goes}
use Rattle.babel_wire.proofs.durable.driving.take_pending.Goals as goal

pub loop-preserved : goal.loop-preserved
loop-preserved c = (
  taking_goes c.loop.counter c.args.now c.args.speaker.now.state c.loop.speaker.state c.loop.outbox c.in-Some.target c.next_datagram.new.out.items
      c.next_datagram.new.self.state c.push.new.self c.loop.invariant.0 c.in-Some.ensures.target c.in-Some.ensures.octets c.in-Some.ensures.built
      c.next_datagram.ensures.state c.push.ensures,
  c.counts_add_up.ensures c.args.speaker.now c.loop.speaker c.next_datagram.new.self c.loop.invariant.1 c.next_datagram.ensures.counted,
)
