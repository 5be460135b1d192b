-- Among routers of others: from views to the loops of our nodes.
use Rattle.std.proofs.Common.{◌≡◌, ◌⊎◌, ◌<◌, ◌≤◌, ℕ, List, [], ◌∷◌, Option, Some, None, option_map, length, refl, sym, ap, ◌∙◌, subst, inl, inr}
use Rattle.std.specs.Option.{option_and_then}
use Rattle.std.proofs.lemmas.Bool.{cases_lt}
use Rattle.std.proofs.lemmas.Option.{same_Some, none-some}
use Rattle.babel_value.specs.Prefixes.{PrefixValue}
use Rattle.babel_state.specs.declared.configs.Config.{Config}
use Rattle.babel_state.specs.declared.selected.Selected.{Selected}
use Rattle.babel_state.specs.Seen.{Seen, heard_of}
use Rattle.babel_machine.specs.declared.machine.pick.Pick.{Pick}
use Rattle.babel_machine.specs.Machine.{NodeState}
use Rattle.babel_machine.specs.Cycle.{next_hop_of}
use Rattle.babel_machine.specs.Owners.{owner_of}
use Rattle.babel_machine.specs.Worlds.{World, speaker_at, Follows, FollowsThrough, NoLoopNaming}
use Rattle.babel_machine.specs.Views.{NetSource}
use Rattle.babel_machine.specs.Invariants.{update_heard}
use Rattle.babel_machine.specs.ForeignWorlds.{ForeignWorld, last_foreign_world, AreInHalf, NamesNoNode, source_among, pick_among, view_among, Forwards, NoForwardingLoop}
use Rattle.babel_machine.specs.ForeignLaws.{CameFrom, IsNamedByUs, IsInvariantAmong, NoLoopOfNeighbours, NoLoopOfNextHops, SeqnosGoAround}
use Rattle.babel_machine.proofs.MachineAmong.{no_cycle_among}
use Rattle.babel_machine.proofs.Speakers.{speaker_past, node_at-picture}
use Rattle.babel_machine.proofs.Picking.{of_source_itself}
use Rattle.babel_machine.proofs.Emitting.{route_heard}
use Rattle.babel_machine.proofs.Following.{no_loop_of_picks}
use Rattle.babel_machine.proofs.ForeignRuns.{sender_is, pick_among-route}
use Rattle.babel_machine.proofs.ForeignKept.{networks_sound}

-- ---- neighbours

follows_pick : (configs : List Config) (w : World) (s : NetSource) (node next : ℕ) → Follows configs w s.prefix s.router node next → next_hop_of (view_among configs s w) node ≡ Some next
follows_pick configs w s node next h = by (cases_lt node (length w.speakers))
  where
    of : (o : Option Selected) → option_map (λ (c : Selected). c.router) o ≡ Some s.router → option_and_then (λ (c : Selected). owner_of configs c.peer.addr) o ≡ Some next → option_map (λ (k : Pick). k.from) (pick_among configs s o) ≡ Some next
    of None named hop = absurd (none-some s.router named)
    of (Some c) named hop =
        ap (option_map (λ (k : Pick). k.from)) (pick_among-route configs s c (same_Some c.router s.router named))
        ∙ ap Some (sender_is configs c.peer next hop)

    by : ((node < length w.speakers) ⊎ (length w.speakers ≤ node)) → next_hop_of (view_among configs s w) node ≡ Some next
    by (inl inside) =
        ap (λ (n : NodeState). option_map (λ (k : Pick). k.from) n.pick) (node_at-picture (pick_among configs s) s (view_among configs s w).raises w node inside)
        ∙ of ((speaker_at w node).selected_at s.prefix) h.0 h.1
    by (inr past) = absurd (none-some s.router (subst (λ (x : Seen). option_map (λ (c : Selected). c.router) (x.selected_at s.prefix) ≡ Some s.router) (speaker_past w node past) h.0))

no_loop_in : (configs : List Config) (w : ForeignWorld) (prefix : PrefixValue) (router : List ℕ) (start : ℕ) → IsInvariantAmong configs w → AreInHalf prefix router start w → NoLoopNaming configs w.ours prefix router
no_loop_in configs w prefix router start inv half =
    let s = source_among configs prefix router start in
    no_loop_of_picks (view_among configs s w.ours) (Follows configs w.ours prefix router) (follows_pick configs w.ours s) (no_cycle_among (length configs) (view_among configs s w.ours) (inv.in_half prefix router start half).sound)

pub no_loop_of_neighbours : NoLoopOfNeighbours
no_loop_of_neighbours configs first events worlds prefix router start apart is h half =
    no_loop_in configs (last_foreign_world first worlds) prefix router start (networks_sound configs first events worlds apart is h) half

-- ---- next hops

-- the node that owns the next hop is the neighbour
gateway_is_neighbour : (configs : List Config) (w : ForeignWorld) (prefix : PrefixValue) (router : List ℕ) → IsInvariantAmong configs w → NamesNoNode configs prefix router w → (node next : ℕ) → Forwards configs w.ours prefix router node next → Follows configs w.ours prefix router node next
gateway_is_neighbour configs w prefix router inv foreign node next h =
    (h.0, by ((speaker_at w.ours node).selected_at prefix) refl h.0 h.1)
  where
    of : (c : Selected) → c.router ≡ router → owner_of configs c.next_hop ≡ Some next → CameFrom configs w prefix c.peer (heard_of c) → owner_of configs c.peer.addr ≡ Some next
    of c named hop (inl was) = was.neighbour ∙ sym was.next_hop ∙ hop
    of c named hop (inr was) =
        absurd (none-some next (sym (foreign (update_heard prefix (heard_of c)) (was.recorded, of_source_itself prefix router (update_heard prefix (heard_of c)) refl (sym named))) ∙ hop))

    by : (o : Option Selected) → (speaker_at w.ours node).selected_at prefix ≡ o → option_map (λ (c : Selected). c.router) o ≡ Some router → option_and_then (λ (c : Selected). owner_of configs c.next_hop) o ≡ Some next → option_and_then (λ (c : Selected). owner_of configs c.peer.addr) o ≡ Some next
    by None is named hop = absurd (none-some next hop)
    by (Some c) is named hop =
        of c (same_Some c.router router named) hop (route_heard (CameFrom configs w) (IsNamedByUs configs) configs node w.ours inv.holds prefix c is)

followed : (configs : List Config) (w : World) (prefix : PrefixValue) (router : List ℕ) → ((node next : ℕ) → Forwards configs w prefix router node next → Follows configs w prefix router node next) → (node : ℕ) (rest : List ℕ) (end : ℕ) → FollowsThrough (Forwards configs w prefix router) node rest end → FollowsThrough (Follows configs w prefix router) node rest end
followed configs w prefix router same node [] end h = same node end h
followed configs w prefix router same node (next ∷ rest) end h =
    (same node next h.0, followed configs w prefix router same next rest end h.1)

no_forwarding : (configs : List Config) (w : World) (prefix : PrefixValue) (router : List ℕ) → ((node next : ℕ) → Forwards configs w prefix router node next → Follows configs w prefix router node next) → NoLoopNaming configs w prefix router → NoForwardingLoop configs w prefix router
no_forwarding configs w prefix router same none [] loop = loop
no_forwarding configs w prefix router same none (node ∷ rest) loop =
    none (node ∷ rest) (followed configs w prefix router same node rest node loop)

pub no_loop_of_next_hops : NoLoopOfNextHops
no_loop_of_next_hops configs first events worlds prefix router start apart is h half foreign =
    let inv = networks_sound configs first events worlds apart is h in
    let last = last_foreign_world first worlds in
    no_forwarding configs last.ours prefix router (gateway_is_neighbour configs last prefix router inv foreign) (no_loop_in configs last prefix router start inv half)

-- ---- seqnos

pub seqnos_go_around : SeqnosGoAround
seqnos_go_around l m n = (refl, refl, refl)
