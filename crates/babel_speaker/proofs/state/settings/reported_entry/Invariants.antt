use Rattle.std.proofs.Common.{◌≡◌, slice_get, map}
use Rattle.babel_choice.specs.Choices.{routes_of}
use Rattle.babel_state.specs.Calls.{reported_entry}
use Rattle.babel_speaker.proofs.state.settings.reported_entry.Given as goal

abbrev pub invariant-loop-key : goal.invariant-loop-key
invariant-loop-key l =
    slice_get (map (reported_entry l.core) l.key-iterator) l.left ≡ slice_get (map (reported_entry l.core) (routes_of l.prefix l.core.routes.entries)) l.fn.index
