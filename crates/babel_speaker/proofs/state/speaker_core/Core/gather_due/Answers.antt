-- The list is that of the prefixes that the definition reads.
use Rattle.std.specs.Prelude.{◌++◌, [], map}
use Rattle.std.proofs.Common.{ap, ◌∙◌}
use Rattle.babel_speaker.specs.TickItems.{all_timers_of}
use Rattle.babel_state.specs.State.{State, PrefixSet, gathered, prefixes_in, reachable_prefixes}
use Rattle.babel_speaker.proofs.TickLists.{same_timers}
use Rattle.babel_speaker.proofs.state.speaker_core.Core.gather_due.Goals as goal

pub returns-then-due : goal.returns-then-due
unfolding reachable_prefixes
returns-then-due c =
    let s : State = c.args.self.now in
    ap (λ (ps : PrefixSet). all_timers_of c.args.now s.neighbours (prefixes_in ps) 0 s.interfaces)
    (c.gather_reachable.ensures ∙ ap (λ (t : State). gathered (prefixes_in t.announced ++ map (λ e. e.0) t.routes.selections) []) c.self.view_is)
    ∙ same_timers c.args.now s 0 s.interfaces
