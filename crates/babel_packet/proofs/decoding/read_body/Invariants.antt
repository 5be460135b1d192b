-- The places so far, and those of the rest in the present parser state, are the places of the whole body.
use Rattle.std.proofs.Common.{◌≡◌, ◌++◌, length, []}
use Rattle.babel_tlv.specs.Split.{places_of, fault_of}
use Rattle.babel_packet.specs.LookBack.{before}
use Rattle.babel_packet.specs.Running.{placed_with}
use Rattle.babel_packet.proofs.decoding.read_body.Given as goal

abbrev pub invariant-loop-tlv : goal.invariant-loop-tlv
invariant-loop-tlv l = record {
  placed_of : l.placed.items ++ placed_with l.state l.tlvs.places ≡ placed_with (before l.fn.source []) (places_of l.body);
  fault : l.tlvs.fault ≡ fault_of l.body;
  end : l.tlvs.end ≡ length l.body;
}
