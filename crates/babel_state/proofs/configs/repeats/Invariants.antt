-- What is left decides whether a prefix is there twice.
use Rattle.std.proofs.Common.{◌≡◌, length}
use Rattle.babel_state.specs.Configs.{repeats}
use Rattle.babel_state.proofs.configs.repeats.Given as goal

abbrev pub invariant-loop-first : goal.invariant-loop-first
invariant-loop-first l = repeats l.rest ≡ repeats l.prefixes

abbrev pub decreases-loop-first : goal.decreases-loop-first
decreases-loop-first l = length l.rest
