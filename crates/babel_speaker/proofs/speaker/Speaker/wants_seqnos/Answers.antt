-- Where nothing is wanted, nothing is requested.
use Rattle.std.specs.List.{list_any}
use Rattle.std.proofs.Common.{sym, ap, ◌∙◌}
use Rattle.babel_state.specs.Requesting.{is_wanted}
use Rattle.babel_state.specs.State.{State}
use Rattle.babel_speaker.proofs.Counting.{state_of}
use Rattle.babel_speaker.proofs.Requesting.{nothing_requested}
use Rattle.babel_speaker.proofs.speaker.Speaker.wants_seqnos.Goals as goal

pub returns-clause-none : goal.returns-clause-none
returns-clause-none c none now =
    nothing_requested now c.args.self.now.state
    (sym (ap (λ (s : State). list_any (is_wanted s) s.routes.entries) (state_of _ _ c.self.view_is)) ∙ sym c.wants_seqnos.ensures ∙ none)
