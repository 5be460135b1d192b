-- What is kept covers what was sent, also with intakes between the turns.
use Rattle.std.proofs.Common.{◌≡◌, ◌⊎◌, ℕ, suc, List, [], ◌∷◌, ◌++◌, take, Contains, Option, Some, refl, sym, ap, ◌∙◌, subst, inl, inr, append_assoc}
use Rattle.std.proofs.lemmas.List.{append-nil}
use Rattle.std.proofs.lemmas.List.Elements.{Contains-append_left}
use Rattle.babel_state.specs.Grouping.{items_grouped}
use Rattle.babel_state.specs.LostLinks.{links_lost}
use Rattle.babel_state.specs.Requesting.{seqnos_requested}
use Rattle.babel_state.specs.Restarts.{Snapshot, snapshot_of, restored}
use Rattle.babel_state.specs.State.{State}
use Rattle.babel_wire.specs.Calls.{Call, Now, Sending}
use Rattle.babel_wire.specs.Keeping.{DurableTurn, AreOctetsOf, IsDurableTurn, last_kept, given_in, calls_of_turn}
use Rattle.babel_wire.specs.Cuts.{File, IsCutOf, on_disk, sent_in}
use Rattle.babel_wire.specs.Intakes.{DurableStep, Turning, TakingIn, Requesting, Losing, Grouping, calls_of_intake, calls_of_steps, AreDurableSteps, AreSteps, taken_by, IsCoveredBySteps, TurnsAreSteps, StepsGoOn, WhatIsKeptCoversWithIntakes, CrashesWithIntakesAreRestarts}
use Rattle.babel_wire.proofs.Covering.{After, cut_in, whole_cut, sent_joined, Same, after_recv, after_now, IsOf, turn_cut, disk_after_keeping, sent_given}
use Rattle.babel_wire.proofs.Files.{disk_joined}
use Rattle.babel_wire.proofs.Members.{AreIn, none_in, joined_in}

-- ---- lists of steps

pub turns_are_steps : TurnsAreSteps
turns_are_steps last later old new [] same = same
turns_are_steps last later old new (t ∷ ts) (mid, turn, rest) =
    (mid, turn, turns_are_steps (last_kept last (snapshot_of mid) t.keeping) later mid new ts rest)

joined : (last mid later : Option Snapshot) (old state new : State) (first rest : List DurableStep) →
    AreDurableSteps last old first mid state → AreDurableSteps mid state rest later new → AreDurableSteps last old (first ++ rest) later new
joined last mid later old state new [] rest (kept, same) after =
    subst (λ (l : Option Snapshot). AreDurableSteps l old rest later new) kept (subst (λ (s : State). AreDurableSteps mid s rest later new) same after)
joined last mid later old state new (Turning t ∷ ss) rest (next, turn, first) after =
    (next, turn, joined (last_kept last (snapshot_of next) t.keeping) mid later next state new ss rest first after)
joined last mid later old state new (TakingIn i ∷ ss) rest (next, intake, first) after =
    (next, intake, joined last mid later next state new ss rest first after)
joined last mid later old state new (Requesting now ∷ ss) rest first after =
    joined last mid later (seqnos_requested now old) state new ss rest first after
joined last mid later old state new (Losing now iface ∷ ss) rest first after =
    joined last mid later (links_lost now iface old) state new ss rest first after
joined last mid later old state new (Grouping ∷ ss) rest first after =
    joined last mid later (items_grouped old) state new ss rest first after

calls_joined : (first rest : List DurableStep) → calls_of_steps (first ++ rest) ≡ calls_of_steps first ++ calls_of_steps rest
calls_joined [] rest = refl
calls_joined (Turning t ∷ ss) rest =
    ap (λ cs. calls_of_turn t ++ cs) (calls_joined ss rest) ∙ sym (append_assoc (calls_of_turn t) (calls_of_steps ss) (calls_of_steps rest))
calls_joined (TakingIn i ∷ ss) rest = ap (λ cs. calls_of_intake i ++ cs) (calls_joined ss rest)
calls_joined (Requesting now ∷ ss) rest = ap (λ cs. Now now ∷ cs) (calls_joined ss rest)
calls_joined (Losing now iface ∷ ss) rest = ap (λ cs. Now now ∷ cs) (calls_joined ss rest)
calls_joined (Grouping ∷ ss) rest = calls_joined ss rest

pub steps_go_on : StepsGoOn
steps_go_on last mid later old state new first rest one other =
    (joined last mid later old state new first rest one other, calls_joined first rest)

-- ---- what covers them

abbrev Covers : State → List DurableStep → List File → List Call → File → Type 0
Covers old steps files cut file =
    (Contains files file × (sent_in cut ≡ [])) ⊎ ((octets : List ℕ) × (file ≡ Some octets) × IsCoveredBySteps old steps cut octets)

-- By the first turn alone.
by_first : (last : Option Snapshot) (old mid : State) (t : DurableTurn) (steps : List DurableStep) (cut : List Call) (octets : List ℕ) → IsDurableTurn last old t mid →
    AreOctetsOf (snapshot_of mid) octets → AreIn (sent_in cut) t.turn.sendings → IsCoveredBySteps old (Turning t ∷ steps) cut octets
by_first last old mid t steps cut octets turn is_of among = record {
  count = 1;
  state = mid;
  reached = (mid, turn.turn, refl);
  octets_of = is_of;
  covers = λ x h. Contains-append_left t.turn.sendings [] x (among x h);
}

-- By more steps.
by_more : (last : Option Snapshot) (old mid : State) (t : DurableTurn) (steps : List DurableStep) (cut later : List Call) (octets : List ℕ) → IsDurableTurn last old t mid →
    cut ≡ calls_of_turn t ++ later → IsCoveredBySteps mid steps later octets → IsCoveredBySteps old (Turning t ∷ steps) cut octets
by_more last old mid t steps cut later octets turn is more = record {
  count = suc more.count;
  state = more.state;
  reached = (mid, turn.turn, more.reached);
  octets_of = more.octets_of;
  covers = subst (λ xs. AreIn xs (t.turn.sendings ++ taken_by (take more.count steps))) (sym (ap sent_in is ∙ sent_joined (calls_of_turn t) later))
      (joined_in (sent_in (calls_of_turn t)) (sent_in later) t.turn.sendings (taken_by (take more.count steps)) (sent_given t) more.covers);
}

-- By a step in which nothing is taken from the speaker.
by_other : (old mid : State) (step : DurableStep) (steps : List DurableStep) (files : List File) (cut after : List Call) (file : File) →
    ((state : State) (count : ℕ) → AreSteps mid (take count steps) state → AreSteps old (step ∷ take count steps) state) →
    ((rest : List DurableStep) → taken_by (step ∷ rest) ≡ taken_by rest) → sent_in cut ≡ sent_in after → Covers mid steps files after file → Covers old (step ∷ steps) files cut file
by_other old mid step steps files cut after file leads silent same (inl (old_file, none)) = inl (old_file, same ∙ none)
by_other old mid step steps files cut after file leads silent same (inr (octets, is, more)) = inr (
  octets,
  is,
  record {
    count = suc more.count;
    state = more.state;
    reached = leads more.state more.count more.reached;
    octets_of = more.octets_of;
    covers = subst (λ xs. AreIn xs (taken_by (step ∷ take more.count steps))) (sym same) (subst (AreIn (sent_in after)) (sym (silent (take more.count steps))) more.covers);
  },
)

pub steps_cover : WhatIsKeptCoversWithIntakes
steps_cover last later old new [] files [] file steps disk is_cut at = inl (at, refl)
steps_cover last later old new [] files (c ∷ cs) file steps disk is_cut at = absurd is_cut
steps_cover last later old new (TakingIn i ∷ ss) files cut file (mid, intake, rest) disk is_cut at =
    let one : Same (Now i.now ∷ calls_of_steps ss) cut = after_recv i.receipt (Now i.now ∷ calls_of_steps ss) cut is_cut in
    let two : Same (calls_of_steps ss) one.0 = after_now i.now (calls_of_steps ss) one.0 one.1 in
    by_other old mid (TakingIn i) ss files cut two.0 file (λ state count reached. (mid, intake, reached)) (λ rest. refl) (one.3 ∙ two.3)
    (steps_cover last later mid new ss files two.0 file rest disk two.1 (subst (λ fs. Contains fs file) (one.2 files ∙ two.2 files) at))
steps_cover last later old new (Requesting now ∷ ss) files cut file rest disk is_cut at =
    let one : Same (calls_of_steps ss) cut = after_now now (calls_of_steps ss) cut is_cut in
    by_other old (seqnos_requested now old) (Requesting now) ss files cut one.0 file (λ state count reached. reached) (λ rest. refl) one.3
    (steps_cover last later (seqnos_requested now old) new ss files one.0 file rest disk one.1 (subst (λ fs. Contains fs file) (one.2 files) at))
steps_cover last later old new (Losing now iface ∷ ss) files cut file rest disk is_cut at =
    let one : Same (calls_of_steps ss) cut = after_now now (calls_of_steps ss) cut is_cut in
    by_other old (links_lost now iface old) (Losing now iface) ss files cut one.0 file (λ state count reached. reached) (λ rest. refl) one.3
    (steps_cover last later (links_lost now iface old) new ss files one.0 file rest disk one.1 (subst (λ fs. Contains fs file) (one.2 files) at))
steps_cover last later old new (Grouping ∷ ss) files cut file rest disk is_cut at =
    by_other old (items_grouped old) Grouping ss files cut cut file (λ state count reached. reached) (λ rest. refl) refl
    (steps_cover last later (items_grouped old) new ss files cut file rest disk is_cut at)
steps_cover last later old new (Turning t ∷ ss) files cut file (mid, turn, rest) disk is_cut at =
    by (λ after cut_after there. steps_cover (last_kept last (snapshot_of mid) t.keeping) later mid new ss (on_disk files (calls_of_turn t)) after file rest
    (disk_after_keeping last (snapshot_of mid) t.keeping (given_in t) files turn.keeps disk) cut_after there)
    (cut_in (calls_of_turn t) (calls_of_steps ss) cut is_cut)
  where
    within : IsOf files cut (snapshot_of mid) t.turn.sendings file → Covers old (Turning t ∷ ss) files cut file
    within (inl old_file) = inl old_file
    within (inr (octets, is, is_of, among)) = inr (octets, is, by_first last old mid t ss cut octets turn is_of among)

    first_only : (after : List Call) → cut ≡ calls_of_turn t ++ after → sent_in after ≡ [] →
        IsOf files (calls_of_turn t) (snapshot_of mid) t.turn.sendings file → Covers old (Turning t ∷ ss) files cut file
    first_only after is none (inl (old_file, not)) =
        inl (old_file, ap sent_in is ∙ sent_joined (calls_of_turn t) after ∙ ap (λ xs. xs ++ sent_in after) not ∙ none)
    first_only after is none (inr (octets, same, is_of, among)) =
        inr (
          octets,
          same,
          by_first last old mid t ss cut octets turn is_of
              (subst (λ xs. AreIn xs t.turn.sendings) (sym (ap sent_in is ∙ sent_joined (calls_of_turn t) after))
              (λ x h. none_more x (joined_in (sent_in (calls_of_turn t)) (sent_in after) t.turn.sendings [] (sent_given t) (subst (λ xs. AreIn xs []) (sym none) (none_in [])) x h))),
        )
      where
        none_more : (x : Sending) → Contains (t.turn.sendings ++ []) x → Contains t.turn.sendings x
        none_more x h = subst (λ xs. Contains xs x) (append-nil t.turn.sendings) h

    beyond : (after : List Call) → cut ≡ calls_of_turn t ++ after → Covers mid ss (on_disk files (calls_of_turn t)) after file → Covers old (Turning t ∷ ss) files cut file
    beyond after is (inl (there, none)) =
        first_only after is none (turn_cut last (snapshot_of mid) t files (calls_of_turn t) file turn.keeps disk (whole_cut (calls_of_turn t)) there)
    beyond after is (inr (octets, same, more)) = inr (octets, same, by_more last old mid t ss cut after octets turn is more)

    by : ((after : List Call) → IsCutOf after (calls_of_steps ss) → Contains (on_disk (on_disk files (calls_of_turn t)) after) file → Covers mid ss (on_disk files (calls_of_turn t)) after file) →
        IsCutOf cut (calls_of_turn t) ⊎ After (calls_of_turn t) (calls_of_steps ss) cut → Covers old (Turning t ∷ ss) files cut file
    by go (inl in_turn) = within (turn_cut last (snapshot_of mid) t files cut file turn.keeps disk in_turn at)
    by go (inr (after, is, cut_after)) = beyond after is
        (go after cut_after (subst (λ fs. Contains fs file) (ap (on_disk files) is ∙ disk_joined files (calls_of_turn t) after) at))

pub steps_restart : CrashesWithIntakesAreRestarts
steps_restart now config old steps cut octets covered = ap (restored now config) covered.octets_of.read.same
