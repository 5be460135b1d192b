use Rattle.std.proofs.Common.{◌≡◌, ◌+◌, ◌≤◌, length}
use Rattle.babel_tlv.specs.Split.{places_of}
use Rattle.babel_replay.specs.Counts.{messages_among}
use Rattle.babel_replay.proofs.counting.count_tlvs.Given as goal

abbrev pub invariant-loop-tlv : goal.invariant-loop-tlv
invariant-loop-tlv l =
    (l.count + messages_among l.tlv-iterator.places ≡ messages_among (places_of l.body))
    × (l.count + length l.tlv-iterator.places ≤ length l.body)
