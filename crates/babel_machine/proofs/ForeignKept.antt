-- Among routers of others: what every event keeps, and the steps of the machine that it is.
use Rattle.std.proofs.Common.{◌≡◌, ◌<◌, ℕ, Bool, List, [], ◌∷◌, ◌++◌, length, All, refl, sym, ap, ◌∙◌, subst, inl, inr}
use Rattle.std.proofs.lemmas.List.Elements.{All-append, All-nil, Contains-append_left, Contains-append_right}
use Rattle.babel_value.specs.declared.keys.Peer.{Peer}
use Rattle.babel_value.specs.Prefixes.{PrefixValue}
use Rattle.babel_value.specs.Seqnos.{lift}
use Rattle.babel_state.specs.declared.configs.Config.{Config}
use Rattle.babel_state.specs.Seen.{Seen, UpdateValue, HeardValue, IsHeardFrom}
use Rattle.babel_machine.specs.declared.events.Event.{Event}
use Rattle.babel_machine.specs.declared.events.Event.TheVariants as events
use Rattle.babel_machine.specs.declared.machine.step.Step.TheVariants.{Raise}
use Rattle.babel_machine.specs.Machine.{first_state}
use Rattle.babel_machine.specs.ForeignWorlds.{ForeignWorld, HearEvent, ForeignEvent, Hears, HappensAmong, HappenAllAmong, last_foreign_world, IsFirstAmong, AreInHalf, source_among, pick_among, view_among}
use Rattle.babel_machine.specs.ForeignLaws.{CameFrom, IsNamedByUs, HoldsForAmong, IsInvariantAmong, NetworksAmongAreSound, HappeningsAreRuns}
use Rattle.babel_machine.specs.Owners.{owner_of, AreApart}
use Rattle.babel_machine.specs.Worlds.{World, speaker_at, with_speaker}
use Rattle.babel_machine.specs.Happenings.{StepsAlone, Receives, Emits, Restarts, Happens}
use Rattle.babel_machine.specs.Views.{NetSource}
use Rattle.babel_machine.specs.Invariants.{WasSent, IsKnown, HoldsWith, update_heard}
use Rattle.babel_machine.proofs.MachineAmong.{IsSoundAmong-first_state, IsSoundAmong-run, no_cycle_among}
use Rattle.babel_machine.proofs.Moving.{Moved, Holds-moved}
use Rattle.babel_machine.proofs.MovingCalls.{AreListed, heard_from, moved_by_call}
use Rattle.babel_machine.proofs.Emitting.{datagram_of, emitted, updates-kept, was_sent_kept, Holds-emitted}
use Rattle.babel_machine.proofs.EventsKept.{nothing_heard, received_from, same_announced, also_announced, less_announced}
use Rattle.babel_machine.proofs.Restarting.{moved_by_restart}
use Rattle.babel_machine.proofs.Beginning.{Holds-first, picture_first, bounds_first}
use Rattle.babel_machine.proofs.ForeignRuns.{IsKept, RunAndHolds, named_now, moved_among, emitted_among}

-- ---- what holds stays so if less is asked

Holds-weaker : (is_heard now_heard : PrefixValue → Peer → HeardValue → Type 0) (is_known now_known : ℕ → UpdateValue → Type 0) (configs : List Config) (w : World) → HoldsWith is_heard is_known configs w → ((prefix : PrefixValue) (peer : Peer) (h : HeardValue) → is_heard prefix peer h → now_heard prefix peer h) → ((node : ℕ) (u : UpdateValue) → is_known node u → now_known node u) → HoldsWith now_heard now_known configs w
Holds-weaker is_heard now_heard is_known now_known configs w holds heard known = record {
  size = holds.size;
  router = holds.router;
  collects = holds.collects;
  transports = holds.transports;
  addresses = holds.addresses;
  seqno = holds.seqno;
  announces = holds.announces;
  heard = λ node prefix peer h is. heard prefix peer h (holds.heard node prefix peer h is);
  selecting = holds.selecting;
  others = holds.others;
  sources = holds.sources;
  updates = λ node u is. known node u (holds.updates node u is);
}

-- what came from somewhere before more is heard
came_more : (configs : List Config) (w : ForeignWorld) (more : List UpdateValue) (prefix : PrefixValue) (peer : Peer) (h : HeardValue) → CameFrom configs w prefix peer h → CameFrom configs (record { ours = w.ours; heard = w.heard ++ more }) prefix peer h
came_more configs w more prefix peer h (inl was) = inl was
came_more configs w more prefix peer h (inr was) =
    inr (record { neighbour = was.neighbour; recorded = Contains-append_left w.heard more (update_heard prefix h) was.recorded })

-- ---- one event

-- what an event keeps, and the steps that it is
pub record IsKeptAmong (configs : List Config) (old new : ForeignWorld) : Type 0 where
  pub kept : IsKept configs new
  pub run : (prefix : PrefixValue) (router : List ℕ) (start : ℕ) → AreInHalf prefix router start new → RunAndHolds configs (source_among configs prefix router start) old.ours new.ours
  pub before : (prefix : PrefixValue) (router : List ℕ) (start : ℕ) → AreInHalf prefix router start new → AreInHalf prefix router start old

kept_before : (configs : List Config) (w : ForeignWorld) → IsInvariantAmong configs w → IsKept configs w
kept_before configs w inv = record { holds = inv.holds; seqnos = inv.seqnos }

-- a step of one speaker that sends nothing
kept_moved : (configs : List Config) (node : ℕ) (w : ForeignWorld) (new : ForeignWorld) (speaker : Seen) (m : Moved (CameFrom configs w) configs node w.ours speaker) → IsInvariantAmong configs w → new ≡ record { ours = with_speaker w.ours node speaker; heard = w.heard } → IsKeptAmong configs w new
kept_moved configs node w new speaker m inv is = subst (IsKeptAmong configs w) (sym is) (record {
  kept = record { holds = Holds-moved (CameFrom configs w) (IsNamedByUs configs) configs node w.ours speaker m inv.holds; seqnos = inv.seqnos };
  run = λ prefix router start half. moved_among configs node w speaker m prefix router start (kept_before configs w inv) (record { first = half.first; heard = half.heard; sent = half.sent }) (inv.in_half prefix router start (record { first = half.first; heard = half.heard; sent = half.sent }));
  before = λ prefix router start half. record { first = half.first; heard = half.heard; sent = half.sent };
})

kept_emitted : (configs : List Config) (node : ℕ) (w new : ForeignWorld) (e : Emits node w.ours new.ours) → AreApart configs → IsInvariantAmong configs w → new.heard ≡ w.heard → IsKeptAmong configs w new
kept_emitted configs node w new e apart inv is = subst (IsKeptAmong configs w) (sym (same new (emitted node w.ours new.ours e) e.next is)) (record {
  kept = record {
    holds = Holds-emitted (CameFrom configs w) (CameFrom configs after) (IsNamedByUs configs) configs node w.ours new.ours e inv.holds later (named_now configs node w new.ours e before);
    seqnos = inv.seqnos;
  };
  run = λ prefix router start half. emitted_among configs node w new.ours e prefix router start apart before half (inv.in_half prefix router start (half_before prefix router start half));
  before = half_before;
})
  where
    same : (v : ForeignWorld) (ours : World) → v.ours ≡ ours → v.heard ≡ w.heard → v ≡ record { ours = ours; heard = w.heard }
    same v ours one other = ap (λ x. record v { ours = x }) one ∙ ap (λ x. record v { ours = ours; heard = x }) other

    after : ForeignWorld
    after = record { ours = emitted node w.ours new.ours e; heard = w.heard }

    before : IsKept configs w
    before = kept_before configs w inv

    later : (prefix : PrefixValue) (peer : Peer) (h : HeardValue) → CameFrom configs w prefix peer h → CameFrom configs after prefix peer h
    later prefix peer h (inl was) = inl (was_sent_kept configs w.ours.sent (datagram_of node w.ours new.ours e) prefix peer h was)
    later prefix peer h (inr was) = inr was

    half_before : (prefix : PrefixValue) (router : List ℕ) (start : ℕ) → AreInHalf prefix router start after → AreInHalf prefix router start w
    half_before prefix router start half = record {
      first = half.first;
      heard = half.heard;
      sent = λ u is. half.sent u (is.0, updates-kept is.0 w.ours.sent (datagram_of node w.ours new.ours e) u is.1, is.2);
    }

kept_same : (configs : List Config) (old new : ForeignWorld) → IsInvariantAmong configs old → new ≡ old → IsKeptAmong configs old new
kept_same configs old new inv is = subst (IsKeptAmong configs old) (sym is) (record {
  kept = kept_before configs old inv;
  run = λ prefix router start half. record { steps = []; run = refl; holds = inv.in_half prefix router start half };
  before = λ prefix router start half. half;
})

-- ---- events of ours

same_world : (old new : ForeignWorld) (ours : World) → new.ours ≡ ours → new.heard ≡ old.heard → new ≡ record { ours = ours; heard = old.heard }
same_world old new ours one other = ap (λ x. record new { ours = x }) one ∙ ap (λ x. record new { ours = ours; heard = x }) other

alone : (configs : List Config) (node growths : ℕ) (announced : PrefixValue → Bool) (old new : ForeignWorld) → IsInvariantAmong configs old → AreListed configs node old.ours announced → new.heard ≡ old.heard → StepsAlone node growths announced old.ours new.ours → IsKeptAmong configs old new
alone configs node growths announced old new inv listed heard h =
    kept_moved configs node old new h.speaker (moved_by_call (CameFrom configs old) (IsNamedByUs configs) configs node old.ours h.peer [] growths announced h.speaker inv.holds h.inside h.moves (nothing_heard (CameFrom configs old) h.peer) listed) inv (same_world old new (with_speaker old.ours node h.speaker) h.next heard)

received : (configs : List Config) (number node iface : ℕ) (old new : ForeignWorld) → IsInvariantAmong configs old → new.heard ≡ old.heard → Receives number node iface old.ours new.ours → IsKeptAmong configs old new
received configs number node iface old new inv heard h =
    kept_moved configs node old new h.speaker (moved_by_call (CameFrom configs old) (IsNamedByUs configs) configs node old.ours peer h.datagram.updates h.growths (speaker_at old.ours node).announces h.speaker inv.holds h.inside h.moves (λ prefix from x is. inl (heard_from (CameFrom configs old) (IsNamedByUs configs) configs old.ours peer h.datagram.updates inv.holds (λ n u known. known.next_hop) (received_from (CameFrom configs old) (IsNamedByUs configs) configs number node iface old.ours new.ours inv.holds h) prefix from x is)) (λ p is. inl is)) inv (same_world old new (with_speaker old.ours node h.speaker) h.next heard)
  where
    peer : Peer
    peer = record { iface = iface; addr = h.datagram.source }

restarted : (configs : List Config) (node : ℕ) (old new : ForeignWorld) → AreApart configs → IsInvariantAmong configs old → new.heard ≡ old.heard → Restarts configs node old.ours new.ours → IsKeptAmong configs old new
restarted configs node old new apart inv heard h =
    kept_moved configs node old new h.speaker (moved_by_restart (CameFrom configs old) (IsNamedByUs configs) configs node old.ours new.ours apart inv.holds h) inv (same_world old new (with_speaker old.ours node h.speaker) h.next heard)

kept_event : (configs : List Config) (event : Event) (old new : ForeignWorld) → AreApart configs → IsInvariantAmong configs old → new.heard ≡ old.heard → Happens configs event old.ours new.ours → IsKeptAmong configs old new
kept_event configs (events.Tick node now) old new apart inv heard h = alone configs node 0 _ old new inv (same_announced configs node old.ours) heard h
kept_event configs (events.Emit node now) old new apart inv heard (inl h) = kept_emitted configs node old new h apart inv heard
kept_event configs (events.Emit node now) old new apart inv heard (inr h) = alone configs node 0 _ old new inv (same_announced configs node old.ours) heard h
kept_event configs (events.Deliver number node iface now) old new apart inv heard (inl h) = received configs number node iface old new inv heard h
kept_event configs (events.Deliver number node iface now) old new apart inv heard (inr h) = kept_same configs old new inv (same_world old new old.ours h heard)
kept_event configs (events.SetCost node iface cost) old new apart inv heard h = alone configs node 0 _ old new inv (same_announced configs node old.ours) heard h
kept_event configs (events.Raise node) old new apart inv heard h = alone configs node 1 _ old new inv (same_announced configs node old.ours) heard h
kept_event configs (events.RequestSeqnos node now) old new apart inv heard h = alone configs node 0 _ old new inv (same_announced configs node old.ours) heard h
kept_event configs (events.LoseLinks node iface now) old new apart inv heard h = alone configs node 0 _ old new inv (same_announced configs node old.ours) heard h
kept_event configs (events.GroupItems node) old new apart inv heard h = alone configs node 0 _ old new inv (same_announced configs node old.ours) heard h
kept_event configs (events.Announce node prefix) old new apart inv heard h = alone configs node 0 _ old new inv (also_announced configs node old.ours prefix h.0) heard h.1
kept_event configs (events.Withdraw node prefix) old new apart inv heard h = alone configs node 0 _ old new inv (less_announced configs node old.ours prefix) heard h
kept_event configs (events.Restart node now) old new apart inv heard h = restarted configs node old new apart inv heard h

-- ---- a datagram of others

hears : (configs : List Config) (event : HearEvent) (old new : ForeignWorld) → IsInvariantAmong configs old → Hears configs event old new → IsKeptAmong configs old new
hears configs event old new inv h = record { kept = moved.kept; run = moved.run; before = half_before }
  where
    -- as if the node's speaker knew what it hears now, before it hears it
    mid : ForeignWorld
    mid = record { ours = old.ours; heard = old.heard ++ h.updates }

    holds : HoldsWith (CameFrom configs mid) (IsNamedByUs configs) configs old.ours
    holds = Holds-weaker (CameFrom configs old) (CameFrom configs mid) (IsNamedByUs configs) (IsNamedByUs configs) configs old.ours inv.holds (came_more configs old h.updates) (λ node u is. is)

    fewer : (prefix : PrefixValue) (router : List ℕ) (start : ℕ) → AreInHalf prefix router start mid → AreInHalf prefix router start old
    fewer prefix router start half = record {
      first = half.first;
      heard = λ u is. half.heard u (Contains-append_left old.heard h.updates u is.0, is.1);
      sent = half.sent;
    }

    inv_mid : IsInvariantAmong configs mid
    inv_mid = record {
      holds = holds;
      seqnos = All-append (λ (u : UpdateValue). u.distance.seqno < 65536) old.heard h.updates inv.seqnos h.seqnos;
      in_half = λ prefix router start half. inv.in_half prefix router start (fewer prefix router start half);
    }

    came : (prefix : PrefixValue) (from : Peer) (x : HeardValue) → IsHeardFrom (record { iface = event.iface; addr = event.source }) h.updates prefix from x → CameFrom configs mid prefix from x
    came prefix from x is = inr (record {
      neighbour = ap (λ (p : Peer). owner_of configs p.addr) is.0 ∙ h.is_foreign;
      recorded = Contains-append_right old.heard h.updates (update_heard prefix x) is.1;
    })

    moved : IsKeptAmong configs mid new
    moved = kept_moved configs event.node mid new h.speaker (moved_by_call (CameFrom configs mid) (IsNamedByUs configs) configs event.node old.ours (record { iface = event.iface; addr = event.source }) h.updates h.growths (speaker_at old.ours event.node).announces h.speaker holds h.inside h.moves came (λ p is. inl is)) inv_mid h.next

    half_before : (prefix : PrefixValue) (router : List ℕ) (start : ℕ) → AreInHalf prefix router start new → AreInHalf prefix router start old
    half_before prefix router start half = fewer prefix router start (moved.before prefix router start half)

kept_occurs : (configs : List Config) (event : ForeignEvent) (old new : ForeignWorld) → AreApart configs → IsInvariantAmong configs old → HappensAmong configs event old new → IsKeptAmong configs old new
kept_occurs configs (inl event) old new apart inv h = kept_event configs event old new apart inv h.1 h.0
kept_occurs configs (inr event) old new apart inv (inl heard) = hears configs event old new inv heard
kept_occurs configs (inr event) old new apart inv (inr same) = kept_same configs old new inv same

pub invariant_next : (configs : List Config) (event : ForeignEvent) (old new : ForeignWorld) → AreApart configs → IsInvariantAmong configs old → HappensAmong configs event old new → IsInvariantAmong configs new
invariant_next configs event old new apart inv h =
    let kept = kept_occurs configs event old new apart inv h in
    record {
      holds = kept.kept.holds;
      seqnos = kept.kept.seqnos;
      in_half = λ prefix router start half. (kept.run prefix router start half).holds;
    }

pub happening_runs : HappeningsAreRuns
happening_runs configs event old new prefix router start apart inv h half =
    let run = (kept_occurs configs event old new apart inv h).run prefix router start half in
    record {
      steps = run.steps;
      run = run.run;
      no_cycle = no_cycle_among (length configs) (view_among configs (source_among configs prefix router start) new.ours) run.holds.sound;
    }

-- ---- lists of events

pub invariant_first : (configs : List Config) (w : ForeignWorld) → AreApart configs → IsFirstAmong configs w → IsInvariantAmong configs w
invariant_first configs w apart first = record {
  holds = Holds-weaker (WasSent configs w.ours.sent) (CameFrom configs w) (IsKnown configs) (IsNamedByUs configs) configs w.ours (Holds-first configs w.ours apart first.ours) (λ prefix peer h was. inl was) (λ node u known. record { next_hop = known.next_hop; seqno = known.seqno });
  seqnos = subst (All (λ (u : UpdateValue). u.distance.seqno < 65536)) (sym first.heard) (All-nil (λ (u : UpdateValue). u.distance.seqno < 65536));
  in_half = λ prefix router start half. holds_for (source_among configs prefix router start);
}
  where
    holds_for : (s : NetSource) → HoldsForAmong configs s w.ours
    holds_for s = record {
      bounds = bounds_first configs w.ours s 32767 first.ours;
      sound = IsSoundAmong-run (length configs) (first_state (length configs) s.owner) (view_among configs s w.ours) (Raise ∷ []) (IsSoundAmong-first_state (length configs) s.owner) (view_among configs s w.ours, (lift s.start (speaker_at w.ours s.owner).seqno, picture_first configs w.ours (pick_among configs s) s (lift s.start (speaker_at w.ours s.owner).seqno) refl first.ours), refl);
    }

pub sound_after : (configs : List Config) (w : ForeignWorld) (events : List ForeignEvent) (worlds : List ForeignWorld) → AreApart configs → IsInvariantAmong configs w → HappenAllAmong configs events w worlds → IsInvariantAmong configs (last_foreign_world w worlds)
sound_after configs w [] [] apart inv h = inv
sound_after configs w [] (v ∷ vs) apart inv h = absurd h
sound_after configs w (event ∷ events) [] apart inv h = absurd h
sound_after configs w (event ∷ events) (v ∷ vs) apart inv h = sound_after configs v events vs apart (invariant_next configs event w v apart inv h.0) h.1

pub networks_sound : NetworksAmongAreSound
networks_sound configs first events worlds apart is h = sound_after configs first events worlds apart (invariant_first configs first apart is) h
