-- What is selected from here on leaves what all leave.
use Rattle.std.proofs.Common.{◌≡◌}
use Rattle.babel_state.specs.Reselection.{reselect_each}
use Rattle.babel_state.specs.State.{prefixes_in}
use Rattle.babel_speaker.proofs.state.speaker_core.Core.reselect_each.Given as goal

abbrev pub invariant-loop-prefix : goal.invariant-loop-prefix
invariant-loop-prefix l =
    reselect_each l.now l.prefix-iterator l.self ≡ reselect_each l.now (prefixes_in l.prefixes) l.fn.self
