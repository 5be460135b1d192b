use Rattle.std.proofs.Common.{length, arith, refl, subst}
use Rattle.std.specs.Io.KnownBytes.{Appends}
use Rattle.babel_state.specs.Addresses.{transport_at}
use Rattle.babel_state.proofs.KeptRoutes.{same_routes, routes_through}
use Rattle.babel_speaker.specs.Sending.{draft_at}
use Rattle.babel_replay.proofs.MessageCounts.{counted_of}
use Rattle.babel_replay.proofs.Sending.{sending_begins, sending_goes, fewer_left, sends_nothing}
use Rattle.babel_replay.proofs.replaying.send_datagrams.Goals as goal

pub loop-init : goal.loop-init
loop-init g c = (
  sending_begins c.args.time c.args.speaker.now.state (g.W.Write.contents c.args.out.now),
  omega arith,
  same_routes c.args.speaker.now.state c.args.speaker.now.state refl,
)

pub loop-preserved : goal.loop-preserved
loop-preserved g c = (
  sending_goes c.loop.counter c.args.time c.args.speaker.now.state c.loop.speaker.state (g.W.Write.contents c.args.out.now) (g.W.Write.contents c.loop.out)
      c.in-Some.target c.count_messages-messages.result c.next_datagram.new.self.state (g.W.Write.contents c.write_line.new.out)
      c.loop.invariant.0 c.in-Some.ensures.target
      (counted_of (transport_at c.in-Some.target.iface c.loop.speaker.state) c.next_datagram.new.out.items c.deref.result.now
      (draft_at c.args.time c.loop.speaker.state).messages c.count_messages-messages.result c.in-Some.ensures.octets c.deref.ensures.0 c.count_messages-messages.ensures)
      c.next_datagram.ensures.state
      (subst (Appends (g.W.Write.contents c.loop.out) (g.W.Write.contents c.write_line.new.out)) c.set_out.ensures c.in_ok-write_line.ensures.written),
  fewer_left c.datagrams_take_items.ensures c.loop.counter (length c.args.speaker.now.state.pending.items) c.args.time c.loop.speaker.state c.in-Some.target
      c.next_datagram.new.self.state c.loop.invariant.1 c.in-Some.ensures.target c.next_datagram.ensures.state,
  routes_through c.args.speaker.now.state c.loop.speaker.state c.next_datagram.new.self.state c.loop.invariant.2 c.next_datagram.ensures.kept,
)

pub returns-in_default-clause-kept : goal.returns-in_default-clause-kept
returns-in_default-clause-kept g c =
    routes_through c.args.speaker.now.state c.loop.speaker.state c.next_datagram.new.self.state c.loop.invariant.2 c.next_datagram.ensures.kept

pub returns-in_err-write_line-clause-kept : goal.returns-in_err-write_line-clause-kept
returns-in_err-write_line-clause-kept g c =
    routes_through c.args.speaker.now.state c.loop.speaker.state c.next_datagram.new.self.state c.loop.invariant.2 c.next_datagram.ensures.kept

pub returns-then-pending-eq0-clause-sent : goal.returns-then-pending-eq0-clause-sent
returns-then-pending-eq0-clause-sent g c =
    sends_nothing c.args.time c.args.speaker.now.state (g.W.Write.contents c.args.out.now) (omega (arith, c.pending_count-pending.ensures.count, c.if-pending-eq0.true))
