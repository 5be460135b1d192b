-- Turns, intakes, requests, losses and groupings at a node, as events, and restarts between them.
use Rattle.std.proofs.Common.{◌⊎◌, ℕ, List, [], ◌∷◌, Contains, sym, subst, inl, inr}
use Rattle.std.proofs.lemmas.List.Elements.{Contains-append_left, Contains-append_right, Contains-append_cases}
use Rattle.babel_state.specs.declared.configs.Config.{Config}
use Rattle.babel_state.specs.Grouping.{items_grouped}
use Rattle.babel_state.specs.LostLinks.{links_lost}
use Rattle.babel_state.specs.Requesting.{seqnos_requested}
use Rattle.babel_state.specs.Restarts.{restarted}
use Rattle.babel_state.specs.State.{State}
use Rattle.babel_state.specs.Ticks.{ticked}
use Rattle.babel_wire.specs.Calls.{Sending}
use Rattle.babel_wire.specs.Intakes.{DurableStep, Turning, TakingIn, Requesting, Losing, Grouping, Intake, IsIntake, receipts_in, taken_by}
use Rattle.babel_wire.specs.Lives.{Steps, Restart, received, taken}
use Rattle.babel_wire.proofs.Members.{not_in_none, first_in, later_in}
use Rattle.babel_net.specs.Networks.{NetworkState, with_speaker_state}
use Rattle.babel_crashes.specs.NodeSteps.{IsAt, IsFrom, IsRecorded, LeadsTo, AreStepEvents, AreEvents}
use Rattle.babel_crashes.specs.IntakeLaws.{StepsAreEvents}
use Rattle.babel_crashes.specs.CrashLaws.{LivesAreEvents}
use Rattle.babel_crashes.proofs.Events.{Settings, leads_on, leads_nowhere, tick_leads, request_leads, lose_leads, group_leads, restart_leads}
use Rattle.babel_crashes.proofs.NodeTurns.{Comes, AllSent, receives, still_receipts, still_recorded, turn_made}

-- An intake is what comes, and a tick.
intake_made : Settings → (n : NetworkState) (node : ℕ) (config : Config) (i : Intake) (old new : State) → IsAt n node config old → IsFrom n.sent i.receipt → IsIntake old i new →
    Comes node config new n
intake_made laws n node config i old new is from intake =
    let came : Comes node config intake.received n = receives laws n node i.now config i.receipt i.is_refused old intake.received is from intake.receives in
    let ticks = tick_leads laws came.new node i.now config intake.received came.leads.is_at in
    let ready : NetworkState = with_speaker_state came.new node (ticked i.now intake.received) in
    subst (λ (s : State). Comes node config s n) (sym intake.ticks) (record {
      new = ready;
      leads = leads_on node config intake.received (ticked i.now intake.received) n came.new ready came.leads ticks;
    })

-- A step in which nothing is taken from the speaker, and the steps after it.
then_others : (n mid : NetworkState) (node : ℕ) (config : Config) (s new : State) (step : DurableStep) (steps : List DurableStep) → LeadsTo node config s n mid →
    ((x : Sending) → Contains (taken_by (step ∷ steps)) x → Contains (taken_by steps) x) → AreStepEvents node config steps new mid → AreStepEvents node config (step ∷ steps) new n
then_others n mid node config s new step steps first silent later = record {
  new = later.new;
  leads = leads_on node config s new n mid later.new first later.leads;
  records = λ x h. later.records x (silent x h);
}

pub steps_are_events : Settings → StepsAreEvents
steps_are_events laws n node config old new [] is same from =
    subst (λ (s : State). AreStepEvents node config [] s n) (sym same)
    (record { new = n; leads = leads_nowhere n node config old is; records = λ x h. absurd (not_in_none x h) })
steps_are_events laws n node config old new (TakingIn i ∷ steps) is (mid, intake, rest) from =
    let first : Comes node config mid n = intake_made laws n node config i old mid is (from i.receipt (first_in i.receipt (receipts_in steps))) intake in
    then_others n first.new node config mid new (TakingIn i) steps first.leads (λ x h. h)
    (steps_are_events laws first.new node config mid new steps first.leads.is_at rest
    (still_receipts n.sent first.new.sent (receipts_in steps) first.leads.keeps (λ r h. from r (later_in i.receipt (receipts_in steps) r h))))
steps_are_events laws n node config old new (Requesting now ∷ steps) is rest from =
    let requested : State = seqnos_requested now old in
    let first = request_leads laws n node now config old is in
    then_others n (with_speaker_state n node requested) node config requested new (Requesting now) steps first (λ x h. h)
    (steps_are_events laws (with_speaker_state n node requested) node config requested new steps first.is_at rest from)
steps_are_events laws n node config old new (Losing now iface ∷ steps) is rest from =
    let lost : State = links_lost now iface old in
    let first = lose_leads laws n node now iface config old is in
    then_others n (with_speaker_state n node lost) node config lost new (Losing now iface) steps first (λ x h. h)
    (steps_are_events laws (with_speaker_state n node lost) node config lost new steps first.is_at rest from)
steps_are_events laws n node config old new (Grouping ∷ steps) is rest from =
    let grouped : State = items_grouped old in
    let first = group_leads laws n node config old is in
    then_others n (with_speaker_state n node grouped) node config grouped new Grouping steps first (λ x h. h)
    (steps_are_events laws (with_speaker_state n node grouped) node config grouped new steps first.is_at rest from)
steps_are_events laws n node config old new (Turning t ∷ steps) is (mid, turn, rest) from =
    let first : AllSent node config t.turn.sendings mid n =
    turn_made laws n node config t.turn old mid is (from t.turn.receipt (first_in t.turn.receipt (receipts_in steps))) turn in
    let later : AreStepEvents node config steps new first.new =
    steps_are_events laws first.new node config mid new steps first.leads.is_at rest
    (still_receipts n.sent first.new.sent (receipts_in steps) first.leads.keeps (λ r h. from r (later_in t.turn.receipt (receipts_in steps) r h))) in
    record {
      new = later.new;
      leads = leads_on node config mid new n first.new later.new first.leads later.leads;
      records = λ x h. by first later (Contains-append_cases t.turn.sendings (taken_by steps) x h);
    }
  where
    by : {x : Sending} (first : AllSent node config t.turn.sendings mid n) (later : AreStepEvents node config steps new first.new) →
        Contains t.turn.sendings x ⊎ Contains (taken_by steps) x → IsRecorded node config later.new.sent x
    by {x} first later (inl here) = still_recorded node config new first.new later.new x later.leads (first.records x here)
    by {x} first later (inr there) = later.records x there

pub lives_are_events : StepsAreEvents → LivesAreEvents
lives_are_events made n node config old new [] is same from =
    subst (λ (s : State). AreEvents node config [] s n) (sym same)
    (record { new = n; leads = leads_nowhere n node config old is; records = λ x h. absurd (not_in_none x h) })
lives_are_events made n node config old new (Restart now ∷ stages) is leads from =
    let restarts = restart_leads n node now config old is in
    let mid : NetworkState = with_speaker_state n node (restarted now config old) in
    let later : AreEvents node config stages new mid = lives_are_events made mid node config (restarted now config old) new stages restarts.is_at leads from in
    record {
      new = later.new;
      leads = leads_on node config (restarted now config old) new n mid later.new restarts later.leads;
      records = later.records;
    }
lives_are_events made n node config old new (Steps steps ∷ stages) is (mid, some, rest) from =
    let first : AreStepEvents node config steps mid n =
    made n node config old mid steps is some (λ r h. from r (Contains-append_left (receipts_in steps) (received stages) r h)) in
    let later : AreEvents node config stages new first.new =
    lives_are_events made first.new node config mid new stages first.leads.is_at rest
    (still_receipts n.sent first.new.sent (received stages) first.leads.keeps (λ r h. from r (Contains-append_right (receipts_in steps) (received stages) r h))) in
    record {
      new = later.new;
      leads = leads_on node config mid new n first.new later.new first.leads later.leads;
      records = λ x h. by first later (Contains-append_cases (taken_by steps) (taken stages) x h);
    }
  where
    by : {x : Sending} (first : AreStepEvents node config steps mid n) (later : AreEvents node config stages new first.new) → Contains (taken_by steps) x ⊎ Contains (taken stages) x →
        IsRecorded node config later.new.sent x
    by {x} first later (inl here) = still_recorded node config new first.new later.new x later.leads (first.records x here)
    by {x} first later (inr there) = later.records x there
