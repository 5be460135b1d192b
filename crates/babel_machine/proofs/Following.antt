-- From the views of worlds to next hops, and from single events to lists of them.
use Rattle.std.proofs.Common.{◌≡◌, ◌⊎◌, ◌<◌, ◌≤◌, ℕ, true, List, [], ◌∷◌, Option, Some, None, option_map, length, cond, Contains, slice_get, refl, sym, ap, ◌∙◌, subst, inl, inr, arith}
use Rattle.std.specs.Option.{option_and_then}
use Rattle.std.proofs.lemmas.Bool.{cases_lt}
use Rattle.std.proofs.lemmas.Option.{same_Some, none-some}
use Rattle.babel_value.specs.Prefixes.{PrefixValue}
use Rattle.babel_state.specs.declared.configs.Config.{Config}
use Rattle.babel_state.specs.declared.selected.Selected.{Selected}
use Rattle.babel_state.specs.Seen.{Seen, UpdateValue, is_of_source, heard_of}
use Rattle.babel_machine.specs.declared.events.Event.{Event}
use Rattle.babel_machine.specs.declared.machine.pick.Pick.{Pick}
use Rattle.babel_machine.specs.Machine.{SourceState, NodeState}
use Rattle.babel_machine.specs.Cycle.{NoCycle, LeadsThrough, next_hop_of}
use Rattle.babel_machine.specs.Owners.{owner_of, Lists, AreApart}
use Rattle.babel_machine.specs.Worlds.{World, speaker_at, updates_of, IsFirst, next_hop_in, router_in, Follows, FollowsThrough, IsLoop, NoLoopNaming}
use Rattle.babel_machine.specs.Happenings.{HappenAll, last_world}
use Rattle.babel_machine.specs.Views.{NetSource, IsSource, IsCounted, RunsThrough, lifted, pick_of, view}
use Rattle.babel_machine.specs.Invariants.{Holds, IsInvariant, IsOrigin, update_heard}
use Rattle.babel_machine.specs.NetworkLaws.{OrdersAgree, NextHopsArePicks, NoLoopAfterAnyEvents, NoLoopWithOneOrigin, SoundHasNoLoop, SoundHasNoLoopWithOneOrigin}
use Rattle.babel_machine.proofs.MachineCycle.{no_cycle}
use Rattle.babel_machine.proofs.Circular.{IsReached, better_lifted, lifted_better}
use Rattle.babel_machine.proofs.Speakers.{speaker_past, node_at-view}
use Rattle.babel_machine.proofs.Picking.{owner_within, of_source, sent_by-update, same_router_itself}
use Rattle.babel_machine.proofs.MovedRuns.{start_word}
use Rattle.babel_machine.proofs.Emitting.{route_sent}
use Rattle.babel_machine.proofs.Beginning.{IsInvariant-first}
use Rattle.babel_machine.proofs.EventsKept.{event_kept, event_invariant, event_run}

-- ---- next hops are picks

from_of : (s : NetSource) (c : Selected) (o : Option ℕ) → option_map (λ (k : Pick). k.from) (option_map (λ from. record { from = from; pair = lifted s c.distance }) o) ≡ o
from_of s c None = refl
from_of s c (Some from) = refl

hop_of_route : (configs : List Config) (s : NetSource) (c : Selected) → c.router ≡ s.router → option_map (λ (k : Pick). k.from) (pick_of configs s (Some c)) ≡ owner_of configs c.peer.addr
hop_of_route configs s c same =
    ap (λ b. option_map (λ (k : Pick). k.from) (cond b (option_map (λ from. record { from = from; pair = lifted s c.distance }) (owner_of configs c.peer.addr)) None)) (same_router_itself c.router s.router same)
    ∙ from_of s c (owner_of configs c.peer.addr)

pub next_hop_is_pick : NextHopsArePicks
next_hop_is_pick configs w s node inside named =
    ap (λ (n : NodeState). option_map (λ (k : Pick). k.from) n.pick) (node_at-view configs s w node inside) ∙ by ((speaker_at w node).selected_at s.prefix) named
  where
    by : (o : Option Selected) → option_map (λ (c : Selected). c.router) o ≡ Some s.router → option_map (λ (k : Pick). k.from) (pick_of configs s o) ≡ option_and_then (λ (c : Selected). owner_of configs c.peer.addr) o
    by None is = absurd (none-some s.router is)
    by (Some c) is = hop_of_route configs s c (same_Some c.router s.router is)

follows_pick : (configs : List Config) (w : World) (s : NetSource) (node next : ℕ) → Follows configs w s.prefix s.router node next → next_hop_of (view configs s w) node ≡ Some next
follows_pick configs w s node next h = by (cases_lt node (length w.speakers))
  where
    by : ((node < length w.speakers) ⊎ (length w.speakers ≤ node)) → next_hop_of (view configs s w) node ≡ Some next
    by (inl inside) = next_hop_is_pick configs w s node inside h.0 ∙ h.1
    by (inr past) = absurd (none-some s.router (subst (λ (x : Seen). option_map (λ (c : Selected). c.router) (x.selected_at s.prefix) ≡ Some s.router) (speaker_past w node past) h.0))

-- a list in which each follows the next is one of picks, if whoever follows has picked
leads : (state : SourceState) (follows : ℕ → ℕ → Type 0) → ((node next : ℕ) → follows node next → next_hop_of state node ≡ Some next) → (node : ℕ) (rest : List ℕ) (end : ℕ) → FollowsThrough follows node rest end → LeadsThrough state node rest end
leads state follows pick node [] end h = pick node end h
leads state follows pick node (next ∷ rest) end h = (pick node next h.0, leads state follows pick next rest end h.1)

pub no_loop_of_picks : (state : SourceState) (follows : ℕ → ℕ → Type 0) → ((node next : ℕ) → follows node next → next_hop_of state node ≡ Some next) → NoCycle state → (nodes : List ℕ) → ¬ IsLoop follows nodes
no_loop_of_picks state follows pick none [] loop = loop
no_loop_of_picks state follows pick none (node ∷ rest) loop = none (node ∷ rest) (leads state follows pick node rest node loop)

no_loop_naming : (configs : List Config) (w : World) (s : NetSource) → NoCycle (view configs s w) → NoLoopNaming configs w s.prefix s.router
no_loop_naming configs w s none =
    no_loop_of_picks (view configs s w) (Follows configs w s.prefix s.router) (follows_pick configs w s) none

pub sound_no_loop : SoundHasNoLoop
sound_no_loop configs w s inv source counted = no_loop_naming configs w s (no_cycle _ (inv.counted s source counted).sound)

-- ---- lists of events

pub invariant_after : (configs : List Config) (w : World) (events : List Event) (worlds : List World) → AreApart configs → IsInvariant configs w → HappenAll configs events w worlds → IsInvariant configs (last_world w worlds)
invariant_after configs w [] [] apart inv h = inv
invariant_after configs w [] (v ∷ vs) apart inv h = absurd h
invariant_after configs w (event ∷ events) [] apart inv h = absurd h
invariant_after configs w (event ∷ events) (v ∷ vs) apart inv h = invariant_after configs v events vs apart (event_invariant configs event w v apart inv h.0) h.1

-- what is counted after events was counted before them
pub counted_before : (configs : List Config) (w : World) (events : List Event) (worlds : List World) (s : NetSource) → AreApart configs → IsInvariant configs w → HappenAll configs events w worlds → IsSource configs s → IsCounted s (last_world w worlds) → IsCounted s w
counted_before configs w [] [] s apart inv h source counted = counted
counted_before configs w [] (v ∷ vs) s apart inv h source counted = absurd h
counted_before configs w (event ∷ events) [] s apart inv h source counted = absurd h
counted_before configs w (event ∷ events) (v ∷ vs) s apart inv h source counted =
    let later = counted_before configs v events vs s apart (event_invariant configs event w v apart inv h.0) h.1 source counted in
    ((event_kept configs event w v apart inv h.0).run s source later).before

pub runs_through : (configs : List Config) (w : World) (events : List Event) (worlds : List World) (s : NetSource) → AreApart configs → IsInvariant configs w → HappenAll configs events w worlds → IsSource configs s → IsCounted s (last_world w worlds) → RunsThrough configs s w worlds
runs_through configs w [] [] s apart inv h source counted = tt
runs_through configs w [] (v ∷ vs) s apart inv h source counted = absurd h
runs_through configs w (event ∷ events) [] s apart inv h source counted = absurd h
runs_through configs w (event ∷ events) (v ∷ vs) s apart inv h source counted =
    let next = event_invariant configs event w v apart inv h.0 in
    let later = counted_before configs v events vs s apart next h.1 source counted in
    (event_run configs event w v s apart inv h.0 source later, runs_through configs v events vs s apart next h.1 source counted)

pub no_cycle_after : (configs : List Config) (first : World) (events : List Event) (worlds : List World) (s : NetSource) → AreApart configs → IsFirst configs first → HappenAll configs events first worlds → IsSource configs s → IsCounted s (last_world first worlds) → NoCycle (view configs s (last_world first worlds))
no_cycle_after configs first events worlds s apart is h source counted =
    no_cycle _ ((invariant_after configs first events worlds apart (IsInvariant-first configs first apart is) h).counted s source counted).sound

pub no_loop_after : NoLoopAfterAnyEvents
no_loop_after configs first events worlds s apart is h source counted =
    (runs_through configs first events worlds s apart (IsInvariant-first configs first apart is) h source counted, no_loop_naming configs (last_world first worlds) s (no_cycle_after configs first events worlds s apart is h source counted))

-- ---- one origin

-- each selected route for the prefix names the origin's router-id
names_origin : (configs : List Config) (w : World) (prefix : PrefixValue) (origin : ℕ) (c : Config) → Holds configs w → slice_get configs origin ≡ Some c → ((other : ℕ) → Lists configs other prefix → other ≡ origin) → (node next : ℕ) → next_hop_in configs w prefix node ≡ Some next → router_in w prefix node ≡ Some c.router_id
names_origin configs w prefix origin c holds is alone node next hop = by ((speaker_at w node).selected_at prefix) refl hop
  where
    origin_is : (router : List ℕ) → IsOrigin configs prefix router → router ≡ c.router_id
    origin_is router o =
        let same = alone o.0 o.4 in
        let config = same_Some o.1 c (sym o.2 ∙ ap (slice_get configs) same ∙ is) in
        o.3 ∙ ap (λ (d : Config). d.router_id) config

    by : (o : Option Selected) → (speaker_at w node).selected_at prefix ≡ o → option_and_then (λ (r : Selected). owner_of configs r.peer.addr) o ≡ Some next → option_map (λ (r : Selected). r.router) o ≡ Some c.router_id
    by None _ h = absurd (none-some next h)
    by (Some r) selected h =
        let was = route_sent configs node w holds prefix r selected in
        ap Some (origin_is r.router (holds.updates was.node (update_heard prefix (heard_of r)) was.recorded).origin)

-- a loop of next hops is one of selected routes that all name it
named_loop : (configs : List Config) (w : World) (prefix : PrefixValue) (router : List ℕ) → ((node next : ℕ) → next_hop_in configs w prefix node ≡ Some next → router_in w prefix node ≡ Some router) → (node : ℕ) (rest : List ℕ) (end : ℕ) → FollowsThrough (λ node next. next_hop_in configs w prefix node ≡ Some next) node rest end → FollowsThrough (Follows configs w prefix router) node rest end
named_loop configs w prefix router named node [] end h = (named node end h, h)
named_loop configs w prefix router named node (next ∷ rest) end h = ((named node next h.0, h.0), named_loop configs w prefix router named next rest end h.1)

pub sound_no_loop_one_origin : SoundHasNoLoopWithOneOrigin
sound_no_loop_one_origin configs w prefix origin inv alone counted nodes loop = by nodes loop
  where
    naming : NoLoopNaming configs w prefix alone.0.0.router_id
    naming = sound_no_loop configs w (record { prefix = prefix; router = alone.0.0.router_id; owner = origin; start = alone.0.0.seqno }) inv (record { config = alone.0.0; is = alone.0.1; router = refl; start = refl; lists = alone.0.2 }) counted

    by : (nodes : List ℕ) → ¬ IsLoop (λ node next. next_hop_in configs w prefix node ≡ Some next) nodes
    by [] loop = loop
    by (node ∷ rest) loop = naming (node ∷ rest) (named_loop configs w prefix alone.0.0.router_id (names_origin configs w prefix origin alone.0.0 inv.holds alone.0.1 alone.1) node rest node loop)

pub no_loop_one_origin : NoLoopWithOneOrigin
no_loop_one_origin configs first events worlds prefix origin apart is h alone counted =
    sound_no_loop_one_origin configs (last_world first worlds) prefix origin (invariant_after configs first events worlds apart (IsInvariant-first configs first apart is) h) alone counted

-- ---- seqnos

pub orders_agree : OrdersAgree
orders_agree configs w s one other u v apart inv source counted in_u of_u in_v of_v =
    (better_lifted s (speaker_at w s.owner).raises u.distance v.distance start counted (reached one u in_u of_u) (reached other v in_v of_v), lifted_better s (speaker_at w s.owner).raises u.distance v.distance start counted (reached one u in_u of_u) (reached other v in_v of_v))
  where
    start : s.start < 65536
    start = start_word configs s apart source

    reached : (node : ℕ) (x : UpdateValue) → Contains (updates_of node w.sent) x → is_of_source s.prefix s.router x ≡ true → IsReached s (speaker_at w s.owner).raises x.distance
    reached node x there is =
        let known = inv.holds.updates node x there in
        let same = of_source s.prefix s.router x is in
        let inside : node < length w.speakers = omega (arith, owner_within configs x.next_hop node known.next_hop, inv.holds.size) in
        record {
          word = known.seqno;
          reached = (inv.counted s source counted).sound.counted node (lifted s x.distance) (subst (λ (n : NodeState). Contains n.sent (lifted s x.distance)) (sym (node_at-view configs s w node inside)) (sent_by-update s w.sent node x there same.0 same.1));
        }
