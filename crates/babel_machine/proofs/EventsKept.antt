-- What every event keeps, and the machine steps that it is.
use Rattle.std.proofs.Common.{◌≡◌, ◌⊎◌, ℕ, Bool, true, false, ◌&&◌, ◌||◌, not, List, [], ◌∷◌, ◌++◌, Some, Contains, refl, sym, subst, inl, inr, arith}
use Rattle.std.proofs.lemmas.Bool.{false≢true}
use Rattle.std.proofs.lemmas.List.Elements.{All-contains}
use Rattle.std.proofs.lemmas.Map.Views.{tells_apart}
use Rattle.babel_value.proofs.OrderLaws.{prefix_exact}
use Rattle.babel_value.specs.declared.keys.Peer.{Peer}
use Rattle.babel_value.specs.Prefixes.{PrefixValue}
use Rattle.babel_state.specs.declared.configs.Config.{Config}
use Rattle.babel_state.specs.Sameness.{is_same_prefix}
use Rattle.babel_state.specs.Seen.{Seen, UpdateValue, HeardValue, IsHeardFrom, announcing_also, announcing_without}
use Rattle.babel_machine.specs.declared.events.Event.{Event}
use Rattle.babel_machine.specs.declared.events.Event.TheVariants as events
use Rattle.babel_machine.specs.Owners.{owner_of, Lists, AreApart}
use Rattle.babel_machine.specs.Worlds.{World, SentDatagram, speaker_at, with_speaker, updates_if}
use Rattle.babel_machine.specs.Happenings.{StepsAlone, Receives, Emits, Restarts, Happens}
use Rattle.babel_machine.specs.Views.{NetSource, IsSource, IsCounted, IsRun}
use Rattle.babel_machine.specs.Invariants.{WasSent, IsKnown, HoldsWith, Holds, IsInvariant, update_heard}
use Rattle.babel_machine.proofs.Membership.{Contains-nil, Contains-flat_map}
use Rattle.babel_machine.proofs.MachineCycle.{no_cycle}
use Rattle.babel_machine.proofs.Moving.{Moved, Holds-moved}
use Rattle.babel_machine.proofs.MovingCalls.{AreSentBy, AreListed, heard_from, moved_by_call}
use Rattle.babel_machine.proofs.MovedRuns.{MovedRun, moved_run, start_word}
use Rattle.babel_machine.proofs.Emitting.{datagram_of, known_now, was_sent_kept, Holds-emitted}
use Rattle.babel_machine.proofs.EmittedRuns.{emitted_run}
use Rattle.babel_machine.proofs.Beginning.{contains_slice_get}
use Rattle.babel_machine.proofs.Restarting.{moved_by_restart}

-- what an event keeps
pub record IsKept (configs : List Config) (old new : World) : Type 0 where
  pub holds : Holds configs new
  pub run : (s : NetSource) → IsSource configs s → IsCounted s new → MovedRun configs s old new

kept_moved : (configs : List Config) (node : ℕ) (old new : World) (speaker : Seen) (m : Moved (WasSent configs old.sent) configs node old speaker) → AreApart configs → IsInvariant configs old → new ≡ with_speaker old node speaker → IsKept configs old new
kept_moved configs node old new speaker m apart inv is = subst (IsKept configs old) (sym is) (record {
  holds = Holds-moved (WasSent configs old.sent) (IsKnown configs) configs node old speaker m inv.holds;
  run = λ s source counted. moved_run configs node old speaker m s inv.holds (start_word configs s apart source) (inv.counted s source) counted;
})

kept_emitted : (configs : List Config) (node : ℕ) (old new : World) → Emits node old new → AreApart configs → IsInvariant configs old → IsKept configs old new
kept_emitted configs node old new e apart inv = subst (IsKept configs old) (sym e.next) (record {
  holds = Holds-emitted (WasSent configs old.sent) (WasSent configs (old.sent ++ datagram_of node old new e ∷ [])) (IsKnown configs) configs node old new e inv.holds (was_sent_kept configs old.sent (datagram_of node old new e)) (known_now configs node old new e inv.holds);
  run = λ s source counted. emitted_run configs node old new e s apart inv.holds source (inv.counted s source) counted;
})

kept_same : (configs : List Config) (old new : World) → IsInvariant configs old → new ≡ old → IsKept configs old new
kept_same configs old new inv is = subst (IsKept configs old) (sym is) (record {
  holds = inv.holds;
  run = λ s source counted. record { steps = []; run = refl; holds = inv.counted s source counted; before = counted };
})

-- a step in which nothing is received
pub nothing_heard : (is_heard : PrefixValue → Peer → HeardValue → Type 0) (peer : Peer) (prefix : PrefixValue) (from : Peer) (h : HeardValue) → IsHeardFrom peer [] prefix from h → is_heard prefix from h
nothing_heard is_heard peer prefix from h is = absurd (Contains-nil (update_heard prefix h) is.1)

alone : (configs : List Config) (node growths : ℕ) (announced : PrefixValue → Bool) (old new : World) → AreApart configs → IsInvariant configs old → AreListed configs node old announced → StepsAlone node growths announced old new → IsKept configs old new
alone configs node growths announced old new apart inv listed h =
    kept_moved configs node old new h.speaker (moved_by_call (WasSent configs old.sent) (IsKnown configs) configs node old h.peer [] growths announced h.speaker inv.holds h.inside h.moves (nothing_heard (WasSent configs old.sent) h.peer) listed) apart inv h.next

pub same_announced : (configs : List Config) (node : ℕ) (old : World) (p : PrefixValue) → (speaker_at old node).announces p ≡ true → ((speaker_at old node).announces p ≡ true) ⊎ Lists configs node p
same_announced configs node old p is = inl is

pub also_announced : (configs : List Config) (node : ℕ) (old : World) (prefix : PrefixValue) → Lists configs node prefix → (p : PrefixValue) → announcing_also prefix (speaker_at old node) p ≡ true → ((speaker_at old node).announces p ≡ true) ⊎ Lists configs node p
also_announced configs node old prefix lists p is = by (is_same_prefix p prefix) refl is
  where
    by : (b : Bool) → is_same_prefix p prefix ≡ b → (b || (speaker_at old node).announces p) ≡ true → ((speaker_at old node).announces p ≡ true) ⊎ Lists configs node p
    by true same _ = inr (subst (Lists configs node) (sym (tells_apart prefix_exact p prefix same)) lists)
    by false _ on = inl on

pub less_announced : (configs : List Config) (node : ℕ) (old : World) (prefix p : PrefixValue) → announcing_without prefix (speaker_at old node) p ≡ true → ((speaker_at old node).announces p ≡ true) ⊎ Lists configs node p
less_announced configs node old prefix p is = by (is_same_prefix p prefix) is
  where
    by : (b : Bool) → (not b && (speaker_at old node).announces p) ≡ true → ((speaker_at old node).announces p ≡ true) ⊎ Lists configs node p
    by true on = absurd (false≢true on)
    by false on = inl on

-- a datagram that is received
own_updates : (d : SentDatagram) → updates_if d.node d ≡ d.updates
own_updates d = grind arith

pub received_from : (is_heard : PrefixValue → Peer → HeardValue → Type 0) (is_known : ℕ → UpdateValue → Type 0) (configs : List Config) (number node iface : ℕ) (old new : World) → HoldsWith is_heard is_known configs old → (h : Receives number node iface old new) → AreSentBy configs old (record { iface = iface; addr = h.datagram.source }) h.datagram.updates
received_from is_heard is_known configs number node iface old new holds h u there =
    (h.datagram.node, owner, Contains-flat_map (updates_if h.datagram.node) old.sent h.datagram u recorded (subst (λ us. Contains us u) (sym (own_updates h.datagram)) there))
  where
    recorded : Contains old.sent h.datagram
    recorded = contains_slice_get old.sent number h.datagram h.is

    owner : owner_of configs h.datagram.source ≡ Some h.datagram.node
    owner = All-contains (λ (d : SentDatagram). owner_of configs d.source ≡ Some d.node) old.sent h.datagram holds.sources recorded

received : (configs : List Config) (number node iface : ℕ) (old new : World) → AreApart configs → IsInvariant configs old → Receives number node iface old new → IsKept configs old new
received configs number node iface old new apart inv h =
    kept_moved configs node old new h.speaker (moved_by_call (WasSent configs old.sent) (IsKnown configs) configs node old (record { iface = iface; addr = h.datagram.source }) h.datagram.updates h.growths (speaker_at old node).announces h.speaker inv.holds h.inside h.moves (heard_from (WasSent configs old.sent) (IsKnown configs) configs old (record { iface = iface; addr = h.datagram.source }) h.datagram.updates inv.holds (λ n u is. is.next_hop) (received_from (WasSent configs old.sent) (IsKnown configs) configs number node iface old new inv.holds h)) (λ p is. inl is)) apart inv h.next

-- a restart
restarted : (configs : List Config) (node : ℕ) (old new : World) → AreApart configs → IsInvariant configs old → Restarts configs node old new → IsKept configs old new
restarted configs node old new apart inv h =
    kept_moved configs node old new h.speaker (moved_by_restart (WasSent configs old.sent) (IsKnown configs) configs node old new apart inv.holds h) apart inv h.next

pub event_kept : (configs : List Config) (event : Event) (old new : World) → AreApart configs → IsInvariant configs old → Happens configs event old new → IsKept configs old new
event_kept configs (events.Tick node now) old new apart inv h = alone configs node 0 _ old new apart inv (same_announced configs node old) h
event_kept configs (events.Emit node now) old new apart inv (inl h) = kept_emitted configs node old new h apart inv
event_kept configs (events.Emit node now) old new apart inv (inr h) = alone configs node 0 _ old new apart inv (same_announced configs node old) h
event_kept configs (events.Deliver number node iface now) old new apart inv (inl h) = received configs number node iface old new apart inv h
event_kept configs (events.Deliver number node iface now) old new apart inv (inr h) = kept_same configs old new inv h
event_kept configs (events.SetCost node iface cost) old new apart inv h = alone configs node 0 _ old new apart inv (same_announced configs node old) h
event_kept configs (events.Raise node) old new apart inv h = alone configs node 1 _ old new apart inv (same_announced configs node old) h
event_kept configs (events.RequestSeqnos node now) old new apart inv h = alone configs node 0 _ old new apart inv (same_announced configs node old) h
event_kept configs (events.LoseLinks node iface now) old new apart inv h = alone configs node 0 _ old new apart inv (same_announced configs node old) h
event_kept configs (events.GroupItems node) old new apart inv h = alone configs node 0 _ old new apart inv (same_announced configs node old) h
event_kept configs (events.Announce node prefix) old new apart inv h = alone configs node 0 _ old new apart inv (also_announced configs node old prefix h.0) h.1
event_kept configs (events.Withdraw node prefix) old new apart inv h = alone configs node 0 _ old new apart inv (less_announced configs node old prefix) h
event_kept configs (events.Restart node now) old new apart inv h = restarted configs node old new apart inv h

pub event_invariant : (configs : List Config) (event : Event) (old new : World) → AreApart configs → IsInvariant configs old → Happens configs event old new → IsInvariant configs new
event_invariant configs event old new apart inv h =
    let kept = event_kept configs event old new apart inv h in
    record { holds = kept.holds; counted = λ s source counted. (kept.run s source counted).holds }

pub event_run : (configs : List Config) (event : Event) (old new : World) (s : NetSource) → AreApart configs → IsInvariant configs old → Happens configs event old new → IsSource configs s → IsCounted s new → IsRun configs s old new
event_run configs event old new s apart inv h source counted =
    let run = (event_kept configs event old new apart inv h).run s source counted in
    record { steps = run.steps; run = run.run; no_cycle = no_cycle _ run.holds.sound }
