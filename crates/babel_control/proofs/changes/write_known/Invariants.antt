-- So far the lines of the first rows were added.
use Rattle.std.proofs.Common.{◌≡◌, ◌++◌, take, flat_map}
use Rattle.std.specs.String.{string_bytes}
use Rattle.babel_control.specs.declared.lines.Event.TheVariants.{Add}
use Rattle.babel_control.proofs.changes.write_known.Given as goal

abbrev pub invariant-loop-it : goal.invariant-loop-it
invariant-loop-it g l = string_bytes l.out ≡ string_bytes l.initial.out ++ flat_map (λ it. g.T.Row.line it.row Add it.id l.devices) (take l.it-index l.known)
