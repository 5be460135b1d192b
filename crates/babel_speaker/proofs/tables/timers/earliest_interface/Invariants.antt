-- The least moment of all is that of the interfaces that are still to come and of the least one so far.
use Rattle.std.proofs.Common.{◌≡◌, map, drop}
use Rattle.babel_speaker.specs.Deadlines.{earliest, interface_due}
use Rattle.babel_speaker.proofs.tables.timers.earliest_interface.Given as goal

abbrev pub invariant-loop-iface : goal.invariant-loop-iface
invariant-loop-iface l = earliest l.least (map interface_due (drop l.iface l.interfaces)) ≡ earliest l.fn.due (map interface_due l.interfaces)
