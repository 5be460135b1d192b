-- What was read and what lies ahead make the outline of all the octets.
use Rattle.std.proofs.Common.{◌≡◌, ◌++◌, map}
use Rattle.babel_tlv.specs.Split.{places_of, fault_of}
use Rattle.babel_examples.proofs.callers.outline.Given as goal

abbrev pub invariant-loop-tlv : goal.invariant-loop-tlv
invariant-loop-tlv l = record {
  listed : l.outline.items ++ map (λ t. (t.offset, t.kind)) l.tlvs.places ≡ map (λ t. (t.offset, t.kind)) (places_of l.bytes);
  fault : l.tlvs.fault ≡ fault_of l.bytes;
}
