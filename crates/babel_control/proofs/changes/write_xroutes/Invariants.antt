-- So far the lines of the first prefixes were added.
use Rattle.std.proofs.Common.{◌≡◌, ◌++◌, take, flat_map}
use Rattle.std.specs.String.{string_bytes}
use Rattle.babel_control.specs.declared.lines.Event.TheVariants.{Add}
use Rattle.babel_control.specs.Lines.{xroute_line}
use Rattle.babel_control.proofs.changes.write_xroutes.Given as goal

abbrev pub invariant-loop-prefix : goal.invariant-loop-prefix
invariant-loop-prefix l = string_bytes l.out ≡ string_bytes l.initial.out ++ flat_map (xroute_line Add) (take l.prefix-index l.prefixes)
