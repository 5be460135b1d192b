-- No route so far is wanted.
use Rattle.std.proofs.Common.{◌≡◌}
use Rattle.std.specs.List.{list_any}
use Rattle.babel_state.specs.Requesting.{is_wanted}
use Rattle.babel_speaker.proofs.state.speaker_core.Core.wants_seqnos.Given as goal

abbrev pub invariant-loop-route : goal.invariant-loop-route
invariant-loop-route l = list_any (is_wanted l.self) l.route-iterator ≡ list_any (is_wanted l.self) l.self.routes.entries
