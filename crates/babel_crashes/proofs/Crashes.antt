-- A crash, and a start from what is on disk, is the event Restart after some whole steps.
use Rattle.std.proofs.Common.{◌≡◌, ◌⊎◌, ℕ, List, [], ◌∷◌, ◌++◌, map, take, Contains, Some, refl, sym, ap, subst, inl, inr}
use Rattle.std.proofs.lemmas.List.Elements.{All-contains}
use Rattle.std.proofs.lemmas.Option.{same_Some}
use Rattle.babel_state.specs.declared.configs.Config.{Config}
use Rattle.babel_state.specs.Restarts.{snapshot_of, restored, restarted}
use Rattle.babel_state.specs.State.{State}
use Rattle.babel_snapshot.specs.Reading.{snapshot_in}
use Rattle.babel_wire.specs.Calls.{Sending}
use Rattle.babel_wire.specs.Keeping.{AreOctetsOf, DurableTurn, calls_of, calls_of_turn, turns_of}
use Rattle.babel_wire.specs.Cuts.{File, IsCutOf, sent_in}
use Rattle.babel_wire.specs.Intakes.{DurableStep, Turning, AreSteps, calls_of_steps, receipts_in, taken_by, IsCoveredBySteps, WhatIsKeptCoversWithIntakes}
use Rattle.babel_wire.proofs.IntakeCovering.{turns_are_steps}
use Rattle.babel_wire.proofs.Members.{AreIn, none_in, not_in_none, first_in, later_in, in_more}
use Rattle.babel_wire.proofs.Processes.{first_receipts}
use Rattle.babel_machine.specs.declared.events.Event.TheVariants as events
use Rattle.babel_machine.specs.NetworkLaws.{SoundHasNoLoop, SoundHasNoLoopWithOneOrigin}
use Rattle.babel_net.specs.Invariants.{IsNetwork}
use Rattle.babel_net.specs.Laws.{EventsKeepNetworks}
use Rattle.babel_net.specs.Networks.{NetworkState, SentOctets, with_speaker_state, world_of}
use Rattle.babel_net.proofs.Chains.{network_after}
use Rattle.babel_crashes.specs.NodeSteps.{IsAt, IsFrom, AreFrom, AreReceiptsFrom, IsRecorded, LeadsTo, AreStepEvents, AreEvents, IsRestart}
use Rattle.babel_crashes.specs.IntakeLaws.{StepsAreEvents, CrashesWithIntakesAreRestartEvents}
use Rattle.babel_crashes.specs.CrashLaws.{LivesAreEvents, CrashesAreRestartEvents, LivesAreRestartEvents}
use Rattle.babel_crashes.proofs.Events.{restart_made, restart_accepted, at_restarted}

-- What is proved of networks below.
pub record Laws : Type 0 where
  pub kept : EventsKeepNetworks
  pub named : SoundHasNoLoop
  pub one_origin : SoundHasNoLoopWithOneOrigin

-- Events that record what was sent, and then a restart.
restart_after : Laws → (n : NetworkState) (node now : ℕ) (config : Config) (state : State) (sent : List Sending) (octets : List ℕ) (before : NetworkState) →
    IsNetwork n → LeadsTo node config state n before → ((x : Sending) → Contains sent x → IsRecorded node config before.sent x) →
    AreOctetsOf (snapshot_of state) octets → IsRestart node config now sent (restored now config (snapshot_in octets)) n
restart_after laws n node now config state sent octets before net leads recorded is_of =
    let after : NetworkState = with_speaker_state before node (restarted now config state) in
    let before_is : IsNetwork before = subst IsNetwork leads.ran.last (network_after laws.kept leads.events n leads.ran.networks net leads.ran.made) in
    let restart = restart_made before node now config state leads.is_at in
    let accepted = restart_accepted before node now config state leads.is_at in
    let after_is : IsNetwork after = laws.kept (events.Restart node now) before after before_is restart accepted in
    record {
      state = state;
      before = before;
      leads = leads;
      records = recorded;
      after = after;
      restart = restart;
      accepted = accepted;
      is_at = subst (IsAt after node config) (sym (ap (restored now config) is_of.read.same)) (at_restarted before node now config state leads.is_at);
      network = after_is;
      no_loop = λ s. laws.named after.configs (world_of after) s after_is.sound;
      one_origin = λ prefix origin. laws.one_origin after.configs (world_of after) prefix origin after_is.sound;
    }

-- ---- one crash

steps_restart : Laws → StepsAreEvents → (n : NetworkState) (node now : ℕ) (config : Config) (first state : State) (steps : List DurableStep) (sent : List Sending) (octets : List ℕ) →
    IsNetwork n → IsAt n node config first → AreSteps first steps state → AreReceiptsFrom n.sent (receipts_in steps) → AreIn sent (taken_by steps) →
    AreOctetsOf (snapshot_of state) octets → IsRestart node config now sent (restored now config (snapshot_in octets)) n
steps_restart laws are_events n node now config first state steps sent octets net is leads from among is_of =
    let made : AreStepEvents node config steps state n = are_events n node config first state steps is leads from in
    restart_after laws n node now config state sent octets made.new net made.leads (λ x h. made.records x (among x h)) is_of

pub crashes_with_intakes : Laws → StepsAreEvents → WhatIsKeptCoversWithIntakes → CrashesWithIntakesAreRestartEvents
crashes_with_intakes laws are_events covers n node now config old new last later steps files cut octets net is disk kept durable from is_cut at =
    by (covers last later old new steps files cut (Some octets) durable kept is_cut at)
  where
    unsent : (found : List ℕ) → Some octets ≡ Some found → AreOctetsOf (snapshot_of old) found → sent_in cut ≡ [] →
        IsRestart node config now (sent_in cut) (restored now config (snapshot_in octets)) n
    unsent found same is_of none =
        steps_restart laws are_events n node now config old old [] (sent_in cut) octets net is refl (λ r h. absurd (not_in_none r h))
        (subst (λ xs. AreIn xs []) (sym none) (none_in [])) (subst (AreOctetsOf (snapshot_of old)) (sym (same_Some octets found same)) is_of)

    there : ((found : List ℕ) × (Some octets ≡ Some found) × AreOctetsOf (snapshot_of old) found) → sent_in cut ≡ [] →
        IsRestart node config now (sent_in cut) (restored now config (snapshot_in octets)) n
    there (found, same, is_of) none = unsent found same is_of none

    by : (Contains files (Some octets) × (sent_in cut ≡ [])) ⊎ ((found : List ℕ) × (Some octets ≡ Some found) × IsCoveredBySteps old steps cut found) →
        IsRestart node config now (sent_in cut) (restored now config (snapshot_in octets)) n
    by (inl (old_file, none)) =
        there (All-contains (λ (f : File). (found : List ℕ) × (f ≡ Some found) × AreOctetsOf (snapshot_of old) found) files (Some octets) disk old_file) none
    by (inr (found, same, covered)) =
        steps_restart laws are_events n node now config old covered.state (take covered.count steps) (sent_in cut) octets net is covered.reached
        (λ r h. from r (first_receipts covered.count steps r h)) covered.covers
        (subst (AreOctetsOf (snapshot_of covered.state)) (sym (same_Some octets found same)) covered.octets_of)

-- ---- turns alone are steps

calls_of_turning : (turns : List DurableTurn) → calls_of turns ≡ calls_of_steps (map Turning turns)
calls_of_turning [] = refl
calls_of_turning (t ∷ ts) = ap (λ cs. calls_of_turn t ++ cs) (calls_of_turning ts)

receipts_of_turning : (sent : List SentOctets) (turns : List DurableTurn) → AreFrom sent (turns_of turns) → AreReceiptsFrom sent (receipts_in (map Turning turns))
receipts_of_turning sent [] from r h = absurd (not_in_none r h)
receipts_of_turning sent (t ∷ ts) from r h =
    by (receipts_of_turning sent ts (λ u k. from u (later_in t.turn (turns_of ts) u k)) r) (in_more t.turn.receipt (receipts_in (map Turning ts)) r h)
  where
    by : (Contains (receipts_in (map Turning ts)) r → IsFrom sent r) → (r ≡ t.turn.receipt) ⊎ Contains (receipts_in (map Turning ts)) r → IsFrom sent r
    by later (inl same) = subst (IsFrom sent) (sym same) (from t.turn (first_in t.turn (turns_of ts)))
    by later (inr there) = later there

pub crashes : CrashesWithIntakesAreRestartEvents → CrashesAreRestartEvents
crashes with_intakes n node now config old new last later turns files cut octets net is disk kept durable from is_cut at =
    with_intakes n node now config old new last later (map Turning turns) files cut octets net is disk kept (turns_are_steps last later old new turns durable)
    (receipts_of_turning n.sent turns from) (subst (IsCutOf cut) (calls_of_turning turns) is_cut) at

-- ---- several crashes

pub lives : Laws → LivesAreEvents → LivesAreRestartEvents
lives laws are_events n node now config first come sent octets net is reached from =
    let made : AreEvents node config reached.stages reached.state n =
    are_events n node config first reached.state reached.stages is reached.leads (λ r h. from r (reached.came r h)) in
    restart_after laws n node now config reached.state sent octets made.new net made.leads (λ x h. made.records x (reached.covers x h)) reached.file_of
