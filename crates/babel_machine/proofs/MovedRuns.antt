-- A step of one speaker that sends nothing is a list of machine steps: raises, then a pick or a drop.
use Rattle.std.proofs.Common.{◌≡◌, ◌<◌, ◌≤◌, ℕ, ◌+◌, List, [], ◌∷◌, ◌++◌, Option, Some, None, refl, sym, ap, ◌∙◌, subst, arith}
use Rattle.babel_state.specs.declared.configs.Config.{Config}
use Rattle.babel_state.specs.Seen.{Seen}
use Rattle.babel_machine.specs.declared.machine.pick.Pick.{Pick}
use Rattle.babel_machine.specs.declared.machine.step.Step.{Step}
use Rattle.babel_machine.specs.declared.machine.step.Step.TheVariants.{Choose, Drop}
use Rattle.babel_machine.specs.Machine.{with_pick, Steps, Run}
use Rattle.babel_machine.specs.Owners.{AreApart}
use Rattle.babel_machine.specs.Worlds.{World, speaker_at, with_speaker}
use Rattle.babel_machine.specs.Views.{NetSource, IsSource, IsCounted, sent_by, pick_of, view}
use Rattle.babel_machine.specs.Invariants.{WasSent, Holds, HoldsFor, Bounds}
use Rattle.babel_machine.proofs.MachineSound.{IsSound-run}
use Rattle.babel_machine.proofs.SourceEntries.{Bounds-raised}
use Rattle.babel_machine.proofs.Speakers.{length-view, picture, picture_now}
use Rattle.babel_machine.proofs.ViewRuns.{raised, raise_run, Run-join}
use Rattle.babel_machine.proofs.Moving.{Moved, Grew, grew, source_kept, may_pick}

-- the first seqno of a source is a word
pub start_word : (configs : List Config) (s : NetSource) → AreApart configs → IsSource configs s → s.start < 65536
start_word configs s apart source = omega (arith, source.start, apart.seqnos s.owner source.config source.is)

step_now : (configs : List Config) (node : ℕ) (old : World) (speaker : Seen) (m : Moved (WasSent configs old.sent) configs node old speaker) (s : NetSource) (j : ℕ) (pick : Option Pick) → Holds configs old → HoldsFor configs s old → s.start < 65536 → (speaker_at old s.owner).raises ≤ 32767 → pick_of configs s (speaker.selected_at s.prefix) ≡ pick → (step : Step) × Steps (raised (view configs s old) j) step (with_pick (raised (view configs s old) j) node pick)
step_now configs node old speaker m s j None holds for_s start counted is = (Drop node, (rw (length-view configs s old) m.inside, refl))
step_now configs node old speaker m s j (Some k) holds for_s start counted is =
    (Choose node k.from k.pair, (rw (length-view configs s old) m.inside, may_pick configs node old speaker m s j k holds for_s start counted is, refl))

pub view_now : (configs : List Config) (node : ℕ) (old : World) (speaker : Seen) (m : Moved (WasSent configs old.sent) configs node old speaker) (s : NetSource) (j : ℕ) → (speaker_at (with_speaker old node speaker) s.owner).raises ≡ (speaker_at old s.owner).raises + j → with_pick (raised (view configs s old) j) node (pick_of configs s (speaker.selected_at s.prefix)) ≡ view configs s (with_speaker old node speaker)
view_now configs node old speaker m s j raises =
    picture_now (pick_of configs s) s ((speaker_at old s.owner).raises + j) node old speaker m.inside
    ∙ ap (λ raises. picture (pick_of configs s) s raises (with_speaker old node speaker)) (sym raises)

-- and keeps what holds for the source
pub record MovedRun (configs : List Config) (s : NetSource) (old new : World) : Type 0 where
  pub steps : List Step
  pub run : Run (view configs s old) steps (view configs s new)
  pub holds : HoldsFor configs s new
  pub before : IsCounted s old

pub moved_run : (configs : List Config) (node : ℕ) (old : World) (speaker : Seen) (m : Moved (WasSent configs old.sent) configs node old speaker) (s : NetSource) → Holds configs old → s.start < 65536 → (IsCounted s old → HoldsFor configs s old) → IsCounted s (with_speaker old node speaker) → MovedRun configs s old (with_speaker old node speaker)
moved_run configs node old speaker m s holds start was counted =
    record {
      steps = raise.0 ++ step.0 ∷ [];
      run = run;
      before = before;
      holds = record {
        own_seqno = omega (arith, g.seqno, g.raises, for_s.own_seqno);
        bounds = λ b. subst (λ o. Bounds s (speaker_at (with_speaker old node speaker) s.owner).raises o (sent_by s old.sent b)) (sym (source_kept (WasSent configs old.sent) configs node old speaker m s.prefix s.router b)) (Bounds-raised s _ _ ((speaker_at old b).source_at s.prefix s.router) (sent_by s old.sent b) (omega (arith, g.raises)) (for_s.bounds b));
        sound = IsSound-run (view configs s old) (view configs s (with_speaker old node speaker)) (raise.0 ++ step.0 ∷ []) for_s.sound run;
      };
    }
  where
    g : Grew (speaker_at old s.owner) (speaker_at (with_speaker old node speaker) s.owner)
    g = grew configs node old speaker m s.owner holds counted

    before : (speaker_at old s.owner).raises ≤ 32767
    before = omega (arith, g.raises, counted)

    for_s : HoldsFor configs s old
    for_s = was before

    raise : (steps : List Step) × Run (view configs s old) steps (raised (view configs s old) g.growths)
    raise = raise_run (view configs s old) g.growths

    step : (step : Step) × Steps (raised (view configs s old) g.growths) step (with_pick (raised (view configs s old) g.growths) node (pick_of configs s (speaker.selected_at s.prefix)))
    step = step_now configs node old speaker m s g.growths (pick_of configs s (speaker.selected_at s.prefix)) holds for_s start before refl

    run : Run (view configs s old) (raise.0 ++ step.0 ∷ []) (view configs s (with_speaker old node speaker))
    run = Run-join (view configs s old) (raised (view configs s old) g.growths) (view configs s (with_speaker old node speaker)) raise.0 (step.0 ∷ []) raise.1 (with_pick (raised (view configs s old) g.growths) node (pick_of configs s (speaker.selected_at s.prefix)), step.1, sym (view_now configs node old speaker m s g.growths g.raises))
