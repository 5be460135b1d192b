-- Among routers of others: steps of one speaker as steps of the machine.
use Rattle.std.proofs.Common.{◌≡◌, ◌<◌, ℕ, zero, suc, ◌+◌, Bool, true, false, List, [], ◌∷◌, ◌++◌, Option, Some, None, unwrap_or, cond, length, map, slice_get, Contains, All, refl, sym, ap, ◌∙◌, subst, inl, inr, arith}
use Rattle.std.proofs.lemmas.Bool.{false≢true}
use Rattle.std.proofs.lemmas.Option.{same_Some, none-some}
use Rattle.std.proofs.lemmas.List.Elements.{All-contains, All-map, Contains-append_right}
use Rattle.babel_value.specs.declared.distances.Distance.{Distance}
use Rattle.babel_value.specs.declared.keys.Peer.{Peer}
use Rattle.babel_value.specs.Prefixes.{PrefixValue}
use Rattle.babel_value.specs.Seqnos.{lift}
use Rattle.babel_state.specs.declared.configs.Config.{Config}
use Rattle.babel_state.specs.declared.selected.Selected.{Selected}
use Rattle.babel_state.specs.Sameness.{is_same_router}
use Rattle.babel_state.specs.Seen.{Seen, UpdateValue, HeardValue, Advertises, is_of_source, heard_of}
use Rattle.babel_machine.specs.declared.machine.pair.Pair.{Pair}
use Rattle.babel_machine.specs.declared.machine.pick.Pick.{Pick}
use Rattle.babel_machine.specs.declared.machine.step.Step.{Step}
use Rattle.babel_machine.specs.declared.machine.step.Step.TheVariants.{Raise, Announce, Choose, Drop}
use Rattle.babel_machine.specs.Machine.{SourceState, NodeState, node_at, with_sent, with_pick, HasSent, MaySend, beginning, IsBetterPair}
use Rattle.babel_machine.specs.ForeignMachine.{MayPickAmong, StepsAmong, RunAmong}
use Rattle.babel_machine.specs.ForeignWorlds.{ForeignWorld, AreInHalf, sender_of, node_named, source_among, pick_among, view_among}
use Rattle.babel_machine.specs.ForeignLaws.{CameFrom, IsNamedByUs, HoldsForAmong}
use Rattle.babel_machine.specs.Owners.{owner_of, AreApart}
use Rattle.babel_machine.specs.Worlds.{World, speaker_at, with_speaker, updates_of}
use Rattle.babel_machine.specs.Happenings.{Emits}
use Rattle.babel_machine.specs.Views.{NetSource, lifted, sent_by}
use Rattle.babel_machine.specs.Invariants.{HoldsWith, Bounds, update_heard}
use Rattle.babel_machine.proofs.Membership.{Contains-from_filter, All-from_Contains}
use Rattle.babel_machine.proofs.MachineAmong.{IsSoundAmong-run, announced_among}
use Rattle.babel_machine.proofs.Circular.{IsReached}
use Rattle.babel_machine.proofs.Speakers.{picture, node_at-picture, length-picture, picture_now}
use Rattle.babel_machine.proofs.ViewRuns.{announce_run}
use Rattle.babel_machine.proofs.Picking.{same_router, same_router_itself, of_source, of_source_itself, sent_by-update}
use Rattle.babel_machine.proofs.Beginning.{past}
use Rattle.babel_machine.proofs.Moving.{Moved, source_kept, better_than_all}
use Rattle.babel_machine.proofs.Emitting.{datagram_of, emitted, updates-own, route_heard, own_hop}
use Rattle.babel_machine.proofs.EmittedRuns.{updates_for, pairs_for, route_passes, picture_emitted, bounds_emitted, seqno-kept}

-- ---- nodes and router-ids

-- the node of a router-id has it
named_is : (configs : List Config) (router : List ℕ) (c : Config) → slice_get configs (node_named configs router) ≡ Some c → c.router_id ≡ router
named_is [] router c is = absurd (none-some c is)
named_is (d ∷ ds) router c is = by (named_is ds router c) (is_same_router d.router_id router) refl is
  where
    by : (slice_get ds (node_named ds router) ≡ Some c → c.router_id ≡ router) → (b : Bool) → is_same_router d.router_id router ≡ b → slice_get (d ∷ ds) (cond b 0 (node_named ds router + 1)) ≡ Some c → c.router_id ≡ router
    by more true same is = ap (λ (e : Config). e.router_id) (sym (same_Some d c is)) ∙ same_router d.router_id router same
    by more false _ is = more (subst (λ n. slice_get (d ∷ ds) n ≡ Some c) (next (node_named ds router)) is)
      where
        next : (n : ℕ) → n + 1 ≡ suc n
        next n = omega arith

-- a router-id of some node is that of the named node
named_there : (configs : List Config) (router : List ℕ) (node : ℕ) (c : Config) → slice_get configs node ≡ Some c → c.router_id ≡ router → (d : Config) × (slice_get configs (node_named configs router) ≡ Some d)
named_there [] router node c is same = absurd (none-some c is)
named_there (e ∷ es) router node c is same = by (λ n at. named_there es router n c at same) (is_same_router e.router_id router) refl
  where
    next : (n : ℕ) → suc n ≡ n + 1
    next n = omega arith

    later : ((n : ℕ) → slice_get es n ≡ Some c → (d : Config) × (slice_get es (node_named es router) ≡ Some d)) → (node : ℕ) → is_same_router e.router_id router ≡ false → slice_get (e ∷ es) node ≡ Some c → (d : Config) × (slice_get es (node_named es router) ≡ Some d)
    later more zero other is =
        absurd (false≢true (sym other ∙ same_router_itself e.router_id router (ap (λ (x : Config). x.router_id) (same_Some e c is) ∙ same)))
    later more (suc n) other is = more n is

    by : ((n : ℕ) → slice_get es n ≡ Some c → (d : Config) × (slice_get es (node_named es router) ≡ Some d)) → (b : Bool) → is_same_router e.router_id router ≡ b → (d : Config) × (slice_get (e ∷ es) (cond b 0 (node_named es router + 1)) ≡ Some d)
    by more true _ = (e, refl)
    by more false other =
        let d = later more node other is in
        (d.0, subst (λ n. slice_get (e ∷ es) n ≡ Some d.0) (next (node_named es router)) d.1)

pub node_is_named : (configs : List Config) (router : List ℕ) (node : ℕ) (c : Config) → AreApart configs → slice_get configs node ≡ Some c → c.router_id ≡ router → node ≡ node_named configs router
node_is_named configs router node c apart is same =
    let d = named_there configs router node c is same in
    apart.routers node (node_named configs router) c d.0 is d.1 (same ∙ sym (named_is configs router d.0 d.1))

-- ---- picks

pub sender_is : (configs : List Config) (peer : Peer) (node : ℕ) → owner_of configs peer.addr ≡ Some node → sender_of configs peer.addr ≡ node
sender_is configs peer node is = ap (λ o. unwrap_or o (length configs)) is

pub pick_among-route : (configs : List Config) (s : NetSource) (c : Selected) → c.router ≡ s.router → pick_among configs s (Some c) ≡ Some (record { from = sender_of configs c.peer.addr; pair = lifted s c.distance })
pick_among-route configs s c same =
    ap (λ b. cond b (Some (record { from = sender_of configs c.peer.addr; pair = lifted s c.distance })) None) (same_router_itself c.router s.router same)

-- the selected route that a pick is
record IsPickedAmong (configs : List Config) (s : NetSource) (selected : Option Selected) (k : Pick) : Type 0 where
  route : Selected
  is : selected ≡ Some route
  router : route.router ≡ s.router
  from : sender_of configs route.peer.addr ≡ k.from
  pair : lifted s route.distance ≡ k.pair

picked_among : (configs : List Config) (s : NetSource) (selected : Option Selected) (k : Pick) → pick_among configs s selected ≡ Some k → IsPickedAmong configs s selected k
picked_among configs s None k is = absurd (none-some k is)
picked_among configs s (Some c) k is = by (is_same_router c.router s.router) refl is
  where
    by : (b : Bool) → is_same_router c.router s.router ≡ b → cond b (Some (record { from = sender_of configs c.peer.addr; pair = lifted s c.distance })) None ≡ Some k → IsPickedAmong configs s (Some c) k
    by false _ is = absurd (none-some k is)
    by true same is = record {
      route = c;
      is = refl;
      router = same_router c.router s.router same;
      from = ap (λ (j : Pick). j.from) (same_Some _ k is);
      pair = ap (λ (j : Pick). j.pair) (same_Some _ k is);
    }

-- ---- a step that sends nothing

-- what is known of the world before a step
pub record IsKept (configs : List Config) (w : ForeignWorld) : Type 0 where
  pub holds : HoldsWith (CameFrom configs w) (IsNamedByUs configs) configs w.ours
  pub seqnos : All (λ (u : UpdateValue). u.distance.seqno < 65536) w.heard

-- the seqno of a route that came from somewhere is in the half of the circle
came_reached : (configs : List Config) (w : ForeignWorld) (prefix : PrefixValue) (router : List ℕ) (start : ℕ) → IsKept configs w → AreInHalf prefix router start w → (peer : Peer) (h : HeardValue) → h.router ≡ router → CameFrom configs w prefix peer h → IsReached (source_among configs prefix router start) 32767 h.distance
came_reached configs w prefix router start kept half peer h same (inl was) = record {
  word = (kept.holds.updates was.node (update_heard prefix h) was.recorded).seqno;
  reached = half.sent (update_heard prefix h) (was.node, was.recorded, of_source_itself prefix router (update_heard prefix h) refl (sym same));
}
came_reached configs w prefix router start kept half peer h same (inr was) = record {
  word = All-contains (λ (u : UpdateValue). u.distance.seqno < 65536) w.heard (update_heard prefix h) kept.seqnos was.recorded;
  reached = half.heard (update_heard prefix h) (was.recorded, of_source_itself prefix router (update_heard prefix h) refl (sym same));
}

-- the node's selected route may be picked, whatever the count is
may_pick_among : (configs : List Config) (node : ℕ) (w : ForeignWorld) (speaker : Seen) (m : Moved (CameFrom configs w) configs node w.ours speaker) (prefix : PrefixValue) (router : List ℕ) (start n : ℕ) (k : Pick) → IsKept configs w → AreInHalf prefix router start w → HoldsForAmong configs (source_among configs prefix router start) w.ours → pick_among configs (source_among configs prefix router start) (speaker.selected_at prefix) ≡ Some k → MayPickAmong (picture (pick_among configs (source_among configs prefix router start)) (source_among configs prefix router start) n w.ours) node k.from k.pair
may_pick_among configs node w speaker m prefix router start n k kept half for_s is = record {
  sent = λ within. by (omega (arith, within, length-picture (pick_among configs s) s n w.ours)) came;
  better = subst (λ (x : NodeState). All (λ own. IsBetterPair k.pair own) x.sent) (sym (node_at-picture (pick_among configs s) s n w.ours node m.inside)) (subst (λ (q : Pair). All (λ own. IsBetterPair q own) (sent_by s w.ours.sent node)) p.pair better);
  other = λ owner. m.others prefix p.route.peer (heard_of p.route) (m.selecting.entry prefix p.route p.is) (p.router ∙ sym (own_router owner));
}
  where
    s : NetSource
    s = source_among configs prefix router start

    p : IsPickedAmong configs s (speaker.selected_at prefix) k
    p = picked_among configs s (speaker.selected_at prefix) k is

    came : CameFrom configs w prefix p.route.peer (heard_of p.route)
    came = m.heard prefix p.route.peer (heard_of p.route) (m.selecting.entry prefix p.route p.is)

    better : All (λ own. IsBetterPair (lifted s p.route.distance) own) (sent_by s w.ours.sent node)
    better = better_than_all (CameFrom configs w) configs node w.ours speaker m s 32767 p.route half.first (omega arith) p.is p.router (came_reached configs w prefix router start kept half p.route.peer (heard_of p.route) p.router came) (for_s.bounds node)

    by : k.from < length w.ours.speakers → CameFrom configs w prefix p.route.peer (heard_of p.route) → HasSent (picture (pick_among configs s) s n w.ours) k.from k.pair
    by within (inl was) =
        let same : was.node ≡ k.from = sym (sender_is configs p.route.peer was.node was.neighbour) ∙ p.from in
        subst (λ (x : NodeState). Contains x.sent k.pair) (sym (node_at-picture (pick_among configs s) s n w.ours k.from within)) (subst (λ b. Contains (sent_by s w.ours.sent b) k.pair) same (subst (Contains (sent_by s w.ours.sent was.node)) p.pair (sent_by-update s w.ours.sent was.node (update_heard prefix (heard_of p.route)) was.recorded refl (sym p.router))))
    by within (inr was) =
        let from : length configs ≡ k.from = sym (ap (λ o. unwrap_or o (length configs)) was.neighbour) ∙ p.from in
        absurd (omega (arith, within, from, kept.holds.size))

    own_router : node ≡ node_named configs router → speaker.router ≡ router
    own_router owner = named (slice_get configs node) refl
      where
        named : (o : Option Config) → slice_get configs node ≡ o → speaker.router ≡ router
        named None none = absurd (omega (arith, m.inside, kept.holds.size, past configs node none))
        named (Some c) at =
            m.router ∙ kept.holds.router node c at ∙ named_is configs router c (ap (slice_get configs) (sym owner) ∙ at)

-- what is between two views, and holds afterwards
pub record RunAndHolds (configs : List Config) (s : NetSource) (old new : World) : Type 0 where
  pub steps : List Step
  pub run : RunAmong (view_among configs s old) steps (view_among configs s new)
  pub holds : HoldsForAmong configs s new

pub moved_among : (configs : List Config) (node : ℕ) (w : ForeignWorld) (speaker : Seen) (m : Moved (CameFrom configs w) configs node w.ours speaker) (prefix : PrefixValue) (router : List ℕ) (start : ℕ) → IsKept configs w → AreInHalf prefix router start w → HoldsForAmong configs (source_among configs prefix router start) w.ours → RunAndHolds configs (source_among configs prefix router start) w.ours (with_speaker w.ours node speaker)
moved_among configs node w speaker m prefix router start kept half for_s = record {
  steps = Raise ∷ step.0 ∷ [];
  run = run;
  holds = record {
    bounds = λ b. subst (λ o. Bounds s 32767 o (sent_by s w.ours.sent b)) (sym (source_kept (CameFrom configs w) configs node w.ours speaker m prefix router b)) (for_s.bounds b);
    sound = IsSoundAmong-run (length configs) (view_among configs s w.ours) (view_among configs s (with_speaker w.ours node speaker)) (Raise ∷ step.0 ∷ []) for_s.sound run;
  };
}
  where
    s : NetSource
    s = source_among configs prefix router start

    n : ℕ
    n = lift start (speaker_at (with_speaker w.ours node speaker) s.owner).seqno

    counted : SourceState
    counted = picture (pick_among configs s) s n w.ours

    step_now : (pick : Option Pick) → pick_among configs s (speaker.selected_at prefix) ≡ pick → (step : Step) × StepsAmong counted step (with_pick counted node pick)
    step_now None is = (Drop node, (rw (length-picture (pick_among configs s) s n w.ours) m.inside, refl))
    step_now (Some k) is =
        (Choose node k.from k.pair, (rw (length-picture (pick_among configs s) s n w.ours) m.inside, may_pick_among configs node w speaker m prefix router start n k kept half for_s is, refl))

    step : (step : Step) × StepsAmong counted step (with_pick counted node (pick_among configs s (speaker.selected_at prefix)))
    step = step_now (pick_among configs s (speaker.selected_at prefix)) refl

    run : RunAmong (view_among configs s w.ours) (Raise ∷ step.0 ∷ []) (view_among configs s (with_speaker w.ours node speaker))
    run =
        (counted, (n, refl), (with_pick counted node (pick_among configs s (speaker.selected_at prefix)), step.1, sym (picture_now (pick_among configs s) s n node w.ours speaker m.inside)))

-- ---- a datagram that is sent

pub named_now : (configs : List Config) (node : ℕ) (w : ForeignWorld) (new : World) (e : Emits node w.ours new) → IsKept configs w → (u : UpdateValue) → Contains e.updates u → IsNamedByUs configs node u
named_now configs node w new e kept u there = record {
  next_hop = own_hop (CameFrom configs w) (IsNamedByUs configs) configs node w.ours new e kept.holds u there;
  seqno = by (All-contains (Advertises (speaker_at w.ours node)) e.updates u e.sends.advertised there);
}
  where
    came : (prefix : PrefixValue) (peer : Peer) (h : HeardValue) → CameFrom configs w prefix peer h → h.distance.seqno < 65536
    came prefix peer h (inl was) = (kept.holds.updates was.node (update_heard prefix h) was.recorded).seqno
    came prefix peer h (inr was) = All-contains (λ (u : UpdateValue). u.distance.seqno < 65536) w.heard (update_heard prefix h) kept.seqnos was.recorded

    by : Advertises (speaker_at w.ours node) u → u.distance.seqno < 65536
    by (inl is) = subst (λ (d : Distance). d.seqno < 65536) (sym is.2) (kept.holds.seqno node)
    by (inr is) =
        subst (λ (d : Distance). d.seqno < 65536) (sym is.3) (came u.prefix is.0.peer (heard_of is.0) (route_heard (CameFrom configs w) (IsNamedByUs configs) configs node w.ours kept.holds u.prefix is.0 is.1))

may_send_among : (configs : List Config) (node : ℕ) (w : ForeignWorld) (new : World) (e : Emits node w.ours new) (prefix : PrefixValue) (router : List ℕ) (start : ℕ) → AreApart configs → IsKept configs w → (u : UpdateValue) → Contains (updates_for (source_among configs prefix router start) e.updates) u → MaySend (view_among configs (source_among configs prefix router start) w.ours) node (lifted (source_among configs prefix router start) u.distance)
may_send_among configs node w new e prefix router start apart kept u there =
    by (All-contains (Advertises (speaker_at w.ours node)) e.updates u e.sends.advertised inside.0)
  where
    s : NetSource
    s = source_among configs prefix router start

    inside : Contains e.updates u × (is_of_source prefix router u ≡ true)
    inside = Contains-from_filter (is_of_source prefix router) e.updates u there

    same : (prefix ≡ u.prefix) × (router ≡ u.router)
    same = of_source prefix router u inside.1

    by : Advertises (speaker_at w.ours node) u → MaySend (view_among configs s w.ours) node (lifted s u.distance)
    by (inl is) = inl (owner, ap (lifted s) is.2 ∙ ap (λ n. beginning (lift start (speaker_at w.ours n).seqno)) owner)
      where
        owner : node ≡ node_named configs router
        owner =
            let lists = kept.holds.announces node u.prefix is.0 in
            node_is_named configs router node lists.0 apart lists.1 (sym (kept.holds.router node lists.0 lists.1) ∙ sym is.1 ∙ sym same.1)
    by (inr is) =
        inr (route_passes (pick_among configs s) s (lift start (speaker_at w.ours s.owner).seqno) node w.ours u e.inside (kept.holds.selecting node) same.0 is (record { from = sender_of configs is.0.peer.addr; pair = lifted s is.0.distance }) (pick_among-route configs s is.0 (sym is.2 ∙ sym same.1)) refl)

pub emitted_among : (configs : List Config) (node : ℕ) (w : ForeignWorld) (new : World) (e : Emits node w.ours new) (prefix : PrefixValue) (router : List ℕ) (start : ℕ) → AreApart configs → IsKept configs w → AreInHalf prefix router start (record { ours = emitted node w.ours new e; heard = w.heard }) → HoldsForAmong configs (source_among configs prefix router start) w.ours → RunAndHolds configs (source_among configs prefix router start) w.ours (emitted node w.ours new e)
emitted_among configs node w new e prefix router start apart kept half for_s = record {
  steps = map (λ (p : Pair). Announce node p.metric) (pairs_for s e.updates);
  run = run;
  holds = record {
    bounds = bounds_emitted node w.ours new e s 32767 half.first (omega arith) reached for_s.bounds;
    sound = IsSoundAmong-run (length configs) (view_among configs s w.ours) (view_among configs s (emitted node w.ours new e)) (map (λ (p : Pair). Announce node p.metric) (pairs_for s e.updates)) for_s.sound run;
  };
}
  where
    s : NetSource
    s = source_among configs prefix router start

    n : ℕ
    n = lift start (speaker_at w.ours s.owner).seqno

    may : All (MaySend (view_among configs s w.ours) node) (pairs_for s e.updates)
    may = All-map (MaySend (view_among configs s w.ours) node) (λ (u : UpdateValue). lifted s u.distance) (updates_for s e.updates) (All-from_Contains (λ (u : UpdateValue). MaySend (view_among configs s w.ours) node (lifted s u.distance)) (updates_for s e.updates) (may_send_among configs node w new e prefix router start apart kept))

    after : with_sent (view_among configs s w.ours) node ((node_at (view_among configs s w.ours) node).sent ++ pairs_for s e.updates) ≡ view_among configs s (emitted node w.ours new e)
    after =
        picture_emitted (pick_among configs s) s n node w.ours new e
        ∙ ap (λ raises. picture (pick_among configs s) s raises (emitted node w.ours new e)) (ap (lift start) (sym (seqno-kept node w.ours new e s.owner)))

    run : RunAmong (view_among configs s w.ours) (map (λ (p : Pair). Announce node p.metric) (pairs_for s e.updates)) (view_among configs s (emitted node w.ours new e))
    run =
        subst (RunAmong (view_among configs s w.ours) (map (λ (p : Pair). Announce node p.metric) (pairs_for s e.updates))) after (announced_among node (pairs_for s e.updates) _ _ (announce_run (view_among configs s w.ours) node (pairs_for s e.updates) (rw (length-picture (pick_among configs s) s n w.ours) e.inside) may))

    reached : All (λ (u : UpdateValue). IsReached s 32767 u.distance) (updates_for s e.updates)
    reached = All-from_Contains (λ (u : UpdateValue). IsReached s 32767 u.distance) (updates_for s e.updates) each
      where
        each : (u : UpdateValue) → Contains (updates_for s e.updates) u → IsReached s 32767 u.distance
        each u there =
            let inside = Contains-from_filter (is_of_source prefix router) e.updates u there in
            let sent : Contains (updates_of node (w.ours.sent ++ datagram_of node w.ours new e ∷ [])) u = subst (λ us. Contains us u) (sym (updates-own node w.ours.sent (datagram_of node w.ours new e) refl)) (Contains-append_right (updates_of node w.ours.sent) e.updates u inside.0) in
            record { word = (named_now configs node w new e kept u inside.0).seqno; reached = half.sent u (node, sent, inside.1) }
