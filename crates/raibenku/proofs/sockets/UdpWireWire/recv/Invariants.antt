use Rattle.std.proofs.Common.{◌≡◌}
use Rattle.raibenku.proofs.sockets.UdpWireWire.recv.Given as goal

abbrev pub invariant-loop-iface : goal.invariant-loop-iface
invariant-loop-iface g l = l.self.faults ≡ l.fn.self.faults
