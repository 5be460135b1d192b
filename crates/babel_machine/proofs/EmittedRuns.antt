-- Sending a datagram is a list of machine steps: an announcement for each of its updates for the source.
use Rattle.std.proofs.Common.{◌≡◌, ◌≢◌, ◌⊎◌, ◌<◌, ◌≤◌, ℕ, List, [], ◌∷◌, ◌++◌, Option, Some, length, map, filter, Contains, All, true, refl, sym, ap, ◌∙◌, subst, inl, inr, arith}
use Rattle.std.proofs.lemmas.Bool.{cases_eq}
use Rattle.std.proofs.lemmas.List.{length-set, map-append}
use Rattle.std.proofs.lemmas.List.Elements.{filter-append, All-contains, All-map}
use Rattle.babel_value.specs.declared.distances.Distance.{Distance}
use Rattle.babel_value.specs.Prefixes.{PrefixValue}
use Rattle.babel_value.specs.Seqnos.{lift}
use Rattle.babel_state.specs.declared.configs.Config.{Config}
use Rattle.babel_state.specs.declared.selected.Selected.{Selected}
use Rattle.babel_state.specs.Seen.{Seen, UpdateValue, IsSelecting, Advertises, IsOwnUpdate, IsRouteUpdate, is_of_source, heard_of}
use Rattle.babel_machine.specs.declared.machine.pair.Pair.{Pair}
use Rattle.babel_machine.specs.declared.machine.pick.Pick.{Pick}
use Rattle.babel_machine.specs.declared.machine.step.Step.TheVariants.{Announce}
use Rattle.babel_machine.specs.Machine.{NodeState, node_at, with_sent, MaySend, PassesOn, Run, beginning}
use Rattle.babel_machine.specs.Owners.{AreApart}
use Rattle.babel_machine.specs.Worlds.{World, SentDatagram, speaker_at, updates_of}
use Rattle.babel_machine.specs.Happenings.{Emits}
use Rattle.babel_machine.specs.Views.{NetSource, IsSource, IsCounted, lifted, sent_by, pick_of, view}
use Rattle.babel_machine.specs.Invariants.{WasSent, Holds, HoldsFor, Bounds}
use Rattle.babel_machine.proofs.Membership.{Contains-from_filter, All-from_Contains}
use Rattle.babel_machine.proofs.MachineSound.{IsSound-run, counted_to_send}
use Rattle.babel_machine.proofs.Circular.{IsReached, lift_back}
use Rattle.babel_machine.proofs.SourceEntries.{lowered_by_all}
use Rattle.babel_machine.proofs.Speakers.{each_speaker, speaker_now, speaker_other, length-view, picture_node, picture, node_at-picture, length-picture, written-picture}
use Rattle.babel_machine.proofs.ViewRuns.{announce_run}
use Rattle.babel_machine.proofs.Picking.{of_source, pick_of-route}
use Rattle.babel_machine.proofs.MovedRuns.{MovedRun, start_word}
use Rattle.babel_machine.proofs.Emitting.{datagram_of, emitted, updates-own, updates-other, route_sent, known_now}

-- the datagram's updates for the source
abbrev pub updates_for : NetSource → List UpdateValue → List UpdateValue
updates_for s updates = filter (is_of_source s.prefix s.router) updates

abbrev pub pairs_for : NetSource → List UpdateValue → List Pair
pairs_for s updates = map (λ (u : UpdateValue). lifted s u.distance) (updates_for s updates)

-- ---- each of them may be sent

own_node : (configs : List Config) (node : ℕ) (old : World) (s : NetSource) (u : UpdateValue) → AreApart configs → Holds configs old → IsSource configs s → s.router ≡ u.router → IsOwnUpdate (speaker_at old node) u → node ≡ s.owner
own_node configs node old s u apart holds source router is =
    let lists = holds.announces node u.prefix is.0 in
    apart.routers node s.owner lists.0 source.config lists.1 source.is (sym (holds.router node lists.0 lists.1) ∙ sym is.1 ∙ sym router ∙ source.router)

own_may : (configs : List Config) (node : ℕ) (old : World) (s : NetSource) (u : UpdateValue) → AreApart configs → Holds configs old → HoldsFor configs s old → IsSource configs s → IsCounted s old → s.router ≡ u.router → IsOwnUpdate (speaker_at old node) u → MaySend (view configs s old) node (lifted s u.distance)
own_may configs node old s u apart holds for_s source counted router is = inl (owner, pair)
  where
    owner : node ≡ s.owner
    owner = own_node configs node old s u apart holds source router is

    number : lift s.start (speaker_at old node).seqno ≡ (speaker_at old s.owner).raises
    number =
        ap (λ n. lift s.start (speaker_at old n).seqno) owner
        ∙ ap (lift s.start) for_s.own_seqno
        ∙ lift_back s.start (speaker_at old s.owner).raises (start_word configs s apart source) counted

    pair : lifted s u.distance ≡ beginning (speaker_at old s.owner).raises
    pair = ap (lifted s) is.2 ∙ ap beginning number

-- a selected route is passed on under its metric, whatever pick it is
pub route_passes : (pick : Option Selected → Option Pick) (s : NetSource) (raises node : ℕ) (old : World) (u : UpdateValue) → node < length old.speakers → IsSelecting (speaker_at old node) → s.prefix ≡ u.prefix → (is : IsRouteUpdate (speaker_at old node) u) → (k : Pick) → pick (Some is.0) ≡ Some k → k.pair ≡ lifted s is.0.distance → PassesOn (picture pick s raises old) node (lifted s u.distance)
route_passes pick s raises node old u inside selecting prefix is k picked pair = record {
  pick = k;
  picked = ap (λ (n : NodeState). n.pick) (node_at-picture pick s raises old node inside) ∙ ap pick selected ∙ picked;
  same_count = ap (λ (d : Distance). lift s.start d.seqno) is.3 ∙ sym (ap (λ (p : Pair). p.raises) pair);
  greater = omega (arith, above.0, metric, ap (λ (p : Pair). p.metric) pair);
  finite = omega (arith, above.1, metric);
}
  where
    selected : (speaker_at old node).selected_at s.prefix ≡ Some is.0
    selected = ap (λ p. (speaker_at old node).selected_at p) prefix ∙ is.1

    above : (is.0.distance.metric < is.0.metric) × (is.0.metric < 65535)
    above = selecting.above s.prefix is.0 selected

    metric : u.distance.metric ≡ is.0.metric
    metric = ap (λ (d : Distance). d.metric) is.3

route_may : (configs : List Config) (node : ℕ) (old : World) (s : NetSource) (u : UpdateValue) → node < length old.speakers → Holds configs old → s.prefix ≡ u.prefix → s.router ≡ u.router → IsRouteUpdate (speaker_at old node) u → MaySend (view configs s old) node (lifted s u.distance)
route_may configs node old s u inside holds prefix router is =
    inr (route_passes (pick_of configs s) s (speaker_at old s.owner).raises node old u inside (holds.selecting node) prefix is (record { from = was.node; pair = lifted s is.0.distance }) (pick_of-route configs s is.0 was.node (sym is.2 ∙ sym router) was.neighbour) refl)
  where
    was : WasSent configs old.sent s.prefix is.0.peer (heard_of is.0)
    was = route_sent configs node old holds s.prefix is.0 (ap (λ p. (speaker_at old node).selected_at p) prefix ∙ is.1)

may_send : (configs : List Config) (node : ℕ) (old new : World) (e : Emits node old new) (s : NetSource) → AreApart configs → Holds configs old → HoldsFor configs s old → IsSource configs s → IsCounted s old → (u : UpdateValue) → Contains (updates_for s e.updates) u → MaySend (view configs s old) node (lifted s u.distance)
may_send configs node old new e s apart holds for_s source counted u there =
    by (All-contains (Advertises (speaker_at old node)) e.updates u e.sends.advertised inside.0)
  where
    inside : Contains e.updates u × (is_of_source s.prefix s.router u ≡ true)
    inside = Contains-from_filter (is_of_source s.prefix s.router) e.updates u there

    same : (s.prefix ≡ u.prefix) × (s.router ≡ u.router)
    same = of_source s.prefix s.router u inside.1

    by : Advertises (speaker_at old node) u → MaySend (view configs s old) node (lifted s u.distance)
    by (inl is) = own_may configs node old s u apart holds for_s source counted same.1 is
    by (inr is) = route_may configs node old s u e.inside holds same.0 same.1 is

all_may : (configs : List Config) (node : ℕ) (old new : World) (e : Emits node old new) (s : NetSource) → AreApart configs → Holds configs old → HoldsFor configs s old → IsSource configs s → IsCounted s old → All (MaySend (view configs s old) node) (pairs_for s e.updates)
all_may configs node old new e s apart holds for_s source counted =
    All-map (MaySend (view configs s old) node) (λ (u : UpdateValue). lifted s u.distance) (updates_for s e.updates) (All-from_Contains (λ (u : UpdateValue). MaySend (view configs s old) node (lifted s u.distance)) (updates_for s e.updates) (may_send configs node old new e s apart holds for_s source counted))

-- ---- the view after it

sent-own : (s : NetSource) (b : ℕ) (sent : List SentDatagram) (d : SentDatagram) → d.node ≡ b → sent_by s (sent ++ d ∷ []) b ≡ sent_by s sent b ++ pairs_for s d.updates
sent-own s b sent d is =
    ap (pairs_for s) (updates-own b sent d is)
    ∙ ap (map (λ (u : UpdateValue). lifted s u.distance)) (filter-append (is_of_source s.prefix s.router) (updates_of b sent) d.updates)
    ∙ map-append (λ (u : UpdateValue). lifted s u.distance) (updates_for s (updates_of b sent)) (updates_for s d.updates)

sent-other : (s : NetSource) (b : ℕ) (sent : List SentDatagram) (d : SentDatagram) → d.node ≢ b → sent_by s (sent ++ d ∷ []) b ≡ sent_by s sent b
sent-other s b sent d not = ap (pairs_for s) (updates-other b sent d not)

raises-kept : (node : ℕ) (old new : World) (e : Emits node old new) (b : ℕ) → (speaker_at (emitted node old new e) b).raises ≡ (speaker_at old b).raises
raises-kept node old new e =
    each_speaker (λ b x. x.raises ≡ (speaker_at old b).raises) old node e.speaker e.inside e.sends.raises (λ b _. refl)

pub seqno-kept : (node : ℕ) (old new : World) (e : Emits node old new) (b : ℕ) → (speaker_at (emitted node old new e) b).seqno ≡ (speaker_at old b).seqno
seqno-kept node old new e =
    each_speaker (λ b x. x.seqno ≡ (speaker_at old b).seqno) old node e.speaker e.inside e.sends.seqno (λ b _. refl)

pub selected-kept : (node : ℕ) (old new : World) (e : Emits node old new) (prefix : PrefixValue) (b : ℕ) → (speaker_at (emitted node old new e) b).selected_at prefix ≡ (speaker_at old b).selected_at prefix
selected-kept node old new e prefix =
    each_speaker (λ b x. x.selected_at prefix ≡ (speaker_at old b).selected_at prefix) old node e.speaker e.inside (e.sends.selected prefix) (λ b _. refl)

pub node_same : (m n : NodeState) → m.sent ≡ n.sent → m.pick ≡ n.pick → m ≡ n
node_same m n sent pick = ap (λ xs. record m { sent = xs }) sent ∙ ap (λ k. record m { sent = n.sent; pick = k }) pick

pub picture_emitted : (pick : Option Selected → Option Pick) (s : NetSource) (raises node : ℕ) (old new : World) (e : Emits node old new) → with_sent (picture pick s raises old) node ((node_at (picture pick s raises old) node).sent ++ pairs_for s e.updates) ≡ picture pick s raises (emitted node old new e)
picture_emitted pick s raises node old new e =
    ap (λ nodes. record (picture pick s raises old) { nodes = nodes }) (written-picture pick s (emitted node old new e) (picture pick s raises old) node now (rw (length-picture pick s raises old) e.inside) size here others)
  where
    d : SentDatagram
    d = datagram_of node old new e

    now : NodeState
    now = record (node_at (picture pick s raises old) node) { sent = (node_at (picture pick s raises old) node).sent ++ pairs_for s e.updates }

    size : length (picture pick s raises old).nodes ≡ length (emitted node old new e).speakers
    size = length-picture pick s raises old ∙ sym (length-set old.speakers node e.speaker)

    here : now ≡ picture_node pick s (emitted node old new e) node
    here =
        node_same now (picture_node pick s (emitted node old new e) node) (ap (λ (n : NodeState). n.sent ++ pairs_for s e.updates) (node_at-picture pick s raises old node e.inside) ∙ sym (sent-own s node old.sent d refl)) (ap (λ (n : NodeState). n.pick) (node_at-picture pick s raises old node e.inside) ∙ ap pick (sym (selected-kept node old new e s.prefix node)))

    others : (b : ℕ) → b < length (emitted node old new e).speakers → b ≢ node → node_at (picture pick s raises old) b ≡ picture_node pick s (emitted node old new e) b
    others b within other =
        node_at-picture pick s raises old b (omega (arith, within, length-set old.speakers node e.speaker))
        ∙ node_same (picture_node pick s old b) (picture_node pick s (emitted node old new e) b) (sym (sent-other s b old.sent d (λ is. other (sym is)))) (ap pick (sym (selected-kept node old new e s.prefix b)))

view_emitted : (configs : List Config) (node : ℕ) (old new : World) (e : Emits node old new) (s : NetSource) → with_sent (view configs s old) node ((node_at (view configs s old) node).sent ++ pairs_for s e.updates) ≡ view configs s (emitted node old new e)
view_emitted configs node old new e s =
    picture_emitted (pick_of configs s) s (speaker_at old s.owner).raises node old new e
    ∙ ap (λ raises. picture (pick_of configs s) s raises (emitted node old new e)) (sym (raises-kept node old new e s.owner))

-- ---- what holds for the source after it

-- source entries bound what was sent, after it too
pub bounds_emitted : (node : ℕ) (old new : World) (e : Emits node old new) (s : NetSource) (raises : ℕ) → s.start < 65536 → raises ≤ 32767 → All (λ (u : UpdateValue). IsReached s raises u.distance) (updates_for s e.updates) → ((b : ℕ) → Bounds s raises ((speaker_at old b).source_at s.prefix s.router) (sent_by s old.sent b)) → (b : ℕ) → Bounds s raises ((speaker_at (emitted node old new e) b).source_at s.prefix s.router) (sent_by s (old.sent ++ datagram_of node old new e ∷ []) b)
bounds_emitted node old new e s raises start counted reached bounds b = by b (cases_eq b node)
  where
    d : SentDatagram
    d = datagram_of node old new e

    own_bounds : Bounds s raises ((speaker_at (emitted node old new e) node).source_at s.prefix s.router) (sent_by s (old.sent ++ d ∷ []) node)
    own_bounds =
        subst (Bounds s raises ((speaker_at (emitted node old new e) node).source_at s.prefix s.router)) (sym (sent-own s node old.sent d refl)) (subst (λ (x : Seen). Bounds s raises (x.source_at s.prefix s.router) (sent_by s old.sent node ++ pairs_for s e.updates)) (sym (speaker_now old node e.speaker e.inside)) (subst (λ o. Bounds s raises o (sent_by s old.sent node ++ pairs_for s e.updates)) (sym (e.sends.sources s.prefix s.router)) (lowered_by_all s raises (updates_for s e.updates) ((speaker_at old node).source_at s.prefix s.router) (sent_by s old.sent node) start counted reached (bounds node))))

    other_bounds : (b : ℕ) → b ≢ node → Bounds s raises ((speaker_at (emitted node old new e) b).source_at s.prefix s.router) (sent_by s (old.sent ++ d ∷ []) b)
    other_bounds b other =
        subst (Bounds s raises ((speaker_at (emitted node old new e) b).source_at s.prefix s.router)) (sym (sent-other s b old.sent d (λ is. other (sym is)))) (subst (λ (x : Seen). Bounds s raises (x.source_at s.prefix s.router) (sent_by s old.sent b)) (sym (speaker_other old node e.speaker b other)) (bounds b))

    by : (b : ℕ) → ((b ≡ node) ⊎ (b ≢ node)) → Bounds s raises ((speaker_at (emitted node old new e) b).source_at s.prefix s.router) (sent_by s (old.sent ++ d ∷ []) b)
    by b (inl is) = subst (λ c. Bounds s raises ((speaker_at (emitted node old new e) c).source_at s.prefix s.router) (sent_by s (old.sent ++ d ∷ []) c)) (sym is) own_bounds
    by b (inr other) = other_bounds b other

pub emitted_run : (configs : List Config) (node : ℕ) (old new : World) (e : Emits node old new) (s : NetSource) → AreApart configs → Holds configs old → IsSource configs s → (IsCounted s old → HoldsFor configs s old) → IsCounted s (emitted node old new e) → MovedRun configs s old (emitted node old new e)
emitted_run configs node old new e s apart holds source was counted = record {
  steps = map (λ (p : Pair). Announce node p.metric) (pairs_for s e.updates);
  run = run;
  before = before;
  holds = record {
    own_seqno = omega (arith, seqno-kept node old new e s.owner, raises-kept node old new e s.owner, for_s.own_seqno);
    bounds = bounds;
    sound = IsSound-run (view configs s old) (view configs s (emitted node old new e)) (map (λ (p : Pair). Announce node p.metric) (pairs_for s e.updates)) for_s.sound run;
  };
}
  where
    before : IsCounted s old
    before = omega (arith, raises-kept node old new e s.owner, counted)

    for_s : HoldsFor configs s old
    for_s = was before

    run : Run (view configs s old) (map (λ (p : Pair). Announce node p.metric) (pairs_for s e.updates)) (view configs s (emitted node old new e))
    run = subst (Run (view configs s old) (map (λ (p : Pair). Announce node p.metric) (pairs_for s e.updates))) (view_emitted configs node old new e s) (announce_run (view configs s old) node (pairs_for s e.updates) (rw (length-view configs s old) e.inside) (all_may configs node old new e s apart holds for_s source before))

    reached : All (λ (u : UpdateValue). IsReached s (speaker_at old s.owner).raises u.distance) (updates_for s e.updates)
    reached = All-from_Contains (λ (u : UpdateValue). IsReached s (speaker_at old s.owner).raises u.distance) (updates_for s e.updates) (λ u there. record {
      word = (known_now configs node old new e holds u (Contains-from_filter (is_of_source s.prefix s.router) e.updates u there).0).seqno;
      reached = counted_to_send (view configs s old) for_s.sound node (lifted s u.distance) (may_send configs node old new e s apart holds for_s source before u there);
    })

    bounds : (b : ℕ) → Bounds s (speaker_at (emitted node old new e) s.owner).raises ((speaker_at (emitted node old new e) b).source_at s.prefix s.router) (sent_by s (old.sent ++ datagram_of node old new e ∷ []) b)
    bounds b =
        subst (λ n. Bounds s n ((speaker_at (emitted node old new e) b).source_at s.prefix s.router) (sent_by s (old.sent ++ datagram_of node old new e ∷ []) b)) (sym (raises-kept node old new e s.owner)) (bounds_emitted node old new e s (speaker_at old s.owner).raises (start_word configs s apart source) before reached for_s.bounds b)
