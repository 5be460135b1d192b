-- What is written from here on completes the list, and there is room for it.
use Rattle.std.proofs.Common.{◌≡◌, ◌≤◌, ◌+◌, ◌-◌, ◌++◌, drop, length, map}
use Rattle.std.specs.Vec.{vec_len, vec_capacity}
use Rattle.babel_state.specs.Calls.{new_interface}
use Rattle.babel_speaker.proofs.tables.first_tables.push_interfaces.Given as goal

abbrev pub invariant-loop-interface : goal.invariant-loop-interface
invariant-loop-interface l = record {
  done : l.entries.items ++ map new_interface (drop l.interface-index l.interfaces) ≡ l.fn.entries.items ++ map new_interface l.interfaces;
  room : vec_len l.entries + (length l.interfaces - l.interface-index) ≤ vec_capacity l.entries;
}
