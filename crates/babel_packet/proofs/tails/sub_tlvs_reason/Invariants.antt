-- No sub-TLV so far must be understood.
use Rattle.std.proofs.Common.{◌≡◌}
use Rattle.babel_tlv.specs.Split.{places_of}
use Rattle.babel_packet.specs.Tails.{mandatory}
use Rattle.babel_packet.proofs.tails.sub_tlvs_reason.Given as goal

abbrev pub invariant-loop-sub : goal.invariant-loop-sub
invariant-loop-sub l = mandatory l.sub-iterator ≡ mandatory (places_of l.tail)
