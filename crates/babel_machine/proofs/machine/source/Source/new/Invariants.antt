use Rattle.std.proofs.Common.{◌≡◌, replicate}
use Rattle.babel_machine.specs.Machine.{quiet}
use Rattle.babel_machine.proofs.machine.source.Source.new.Given as goal

abbrev pub invariant-loop : goal.invariant-loop
invariant-loop l = l.quiet.items ≡ replicate l.counter quiet
