-- The datagram is in the record.
use Rattle.std.proofs.Common.{Some}
use Rattle.babel_net.proofs.Recorded.{recorded_next}
use Rattle.babel_net.proofs.sent.Record.record_next.Goals as goal

pub returns-in-Some-clause-sent : goal.returns-in-Some-clause-sent
returns-in-Some-clause-sent c = record {
  sent = Some (record { node = c.args.node; source = c.in-Some.way.source; octets = c.send.new.octets.items });
  is_sent = c.in-Some.ensures.sent;
  next = recorded_next c.self.inside.octets.items c.reserve.new.octets.items c.push.new.octets.items c.as_slice-sent.result.now c.send.new.octets.items
      c.self.inside.places.items c.reserve.new.places.items c.push.new.places.items c.args.node c.in-Some.way.source c.args.self.now
      c.self.invariant c.self.view_is c.reserve.ensures.places_kept c.reserve.ensures.octets_kept c.push.ensures.places c.push.ensures.octets c.as_slice-sent.ensures.value;
}
