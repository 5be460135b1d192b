-- So far the lines of the first devices were added.
use Rattle.std.proofs.Common.{◌≡◌, ◌++◌, take, flat_map}
use Rattle.std.specs.String.{string_bytes}
use Rattle.babel_control.specs.declared.lines.Event.TheVariants.{Add}
use Rattle.babel_control.specs.Lines.{interface_line}
use Rattle.babel_control.proofs.changes.write_interfaces.Given as goal

abbrev pub invariant-loop-device : goal.invariant-loop-device
invariant-loop-device l = string_bytes l.out ≡ string_bytes l.initial.out ++ flat_map (interface_line Add) (take l.device-index l.devices)
