use Rattle.std.proofs.Common.{◌≡◌}
use Rattle.babel_tlv.specs.Split.{fault_of}
use Rattle.babel_tlv.proofs.splitting.first_fault.Given as goal

abbrev pub invariant-loop-tlv : goal.invariant-loop-tlv
invariant-loop-tlv l = l.tlvs.fault ≡ fault_of l.bytes
