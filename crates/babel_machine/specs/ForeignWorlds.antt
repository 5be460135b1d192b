-- A network of ours among routers of others (profile): what is heard from them, and what of it has to be known.
use Rattle.std.specs.Prelude.{◌≡◌, ◌⊎◌, ◌<◌, ◌≤◌, ℕ, ◌+◌, true, List, [], ◌∷◌, ◌++◌, length, map, All, Contains, Option, Some, None, unwrap_or, if◌then◌else◌}
use mathlib.Core.Logic.{inl, inr}
use Rattle.std.specs.Option.{option_and_then}
use Rattle.std.specs.List.{range_with_len}
use Rattle.babel_value.specs.declared.addresses.Addr.{Addr}
use Rattle.babel_value.specs.Prefixes.{PrefixValue}
use Rattle.babel_value.specs.Seqnos.{seqno_modulus, lift}
use Rattle.babel_state.specs.declared.configs.Config.{Config}
use Rattle.babel_state.specs.declared.selected.Selected.{Selected}
use Rattle.babel_state.specs.Sameness.{is_same_router}
use Rattle.babel_state.specs.Seen.{Seen, UpdateValue, Moves, is_of_source}
use Rattle.babel_machine.specs.declared.events.Event.{Event}
use Rattle.babel_machine.specs.declared.machine.pick.Pick.{Pick}
use Rattle.babel_machine.specs.declared.machine.step.Step.{Step}
use Rattle.babel_machine.specs.Machine.{SourceState, NodeState}
use Rattle.babel_machine.specs.Cycle.{NoCycle}
use Rattle.babel_machine.specs.ForeignMachine.{RunAmong}
use Rattle.babel_machine.specs.Owners.{owner_of}
use Rattle.babel_machine.specs.Worlds.{World, IsFirst, speaker_at, with_speaker, updates_of, router_in, IsLoop}
use Rattle.babel_machine.specs.Happenings.{Happens}
use Rattle.babel_machine.specs.Views.{NetSource, lifted, sent_by, max_raises}

-- ---- what is heard

-- Our network, and the finite updates of all datagrams that its nodes ever heard from routers of others.
pub record ForeignWorld : Type 0 where
  pub ours : World
  pub heard : List UpdateValue

-- A node hears these octets over one of its interfaces, from this address, at this moment.
pub record HearEvent : Type 0 where
  pub node : ℕ
  pub iface : ℕ
  pub source : Addr
  pub octets : List ℕ
  pub now : ℕ

-- The node's speaker receives a datagram from an address that no node has. Nothing is known of its finite updates, but that
-- their seqnos have 16 bits (RFC 8966, section 4.6.9).
pub record Hears (configs : List Config) (event : HearEvent) (old new : ForeignWorld) : Type 0 where
  pub inside : event.node < length old.ours.speakers
  pub is_foreign : owner_of configs event.source ≡ None
  pub updates : List UpdateValue
  pub seqnos : All (λ (u : UpdateValue). u.distance.seqno < seqno_modulus) updates
  pub growths : ℕ
  pub speaker : Seen
  pub moves :
      Moves (record { iface = event.iface; addr = event.source }) updates growths (speaker_at old.ours event.node).announces (speaker_at old.ours event.node) speaker
  pub next : new ≡ record { ours = with_speaker old.ours event.node speaker; heard = old.heard ++ updates }

-- What happens among routers of others: an event of ours, or a node hears them.
abbrev pub ForeignEvent : Type 0
ForeignEvent = Event ⊎ HearEvent

abbrev pub HappensAmong : List Config → ForeignEvent → ForeignWorld → ForeignWorld → Type 0
HappensAmong configs (inl event) old new = Happens configs event old.ours new.ours × (new.heard ≡ old.heard)
-- a datagram that is refused changes nothing
HappensAmong configs (inr event) old new = Hears configs event old new ⊎ (new ≡ old)

-- The events happen one after the other, and these are the worlds after each of them.
abbrev pub HappenAllAmong : List Config → List ForeignEvent → ForeignWorld → List ForeignWorld → Type 0
HappenAllAmong configs [] old [] = Unit {0}
HappenAllAmong configs [] old (w ∷ ws) = ⊥
HappenAllAmong configs (event ∷ rest) old [] = ⊥
HappenAllAmong configs (event ∷ rest) old (w ∷ ws) = HappensAmong configs event old w × HappenAllAmong configs rest w ws

abbrev pub last_foreign_world : ForeignWorld → List ForeignWorld → ForeignWorld
last_foreign_world w [] = w
last_foreign_world w (next ∷ rest) = last_foreign_world next rest

-- At first nothing was heard.
pub record IsFirstAmong (configs : List Config) (w : ForeignWorld) : Type 0 where
  pub ours : IsFirst configs w.ours
  pub heard : w.heard ≡ []

-- ---- the premises, of one source

-- What was ever heard for the source from routers of others.
abbrev pub WasHeardFor : PrefixValue → List ℕ → ForeignWorld → UpdateValue → Type 0
WasHeardFor prefix router w u = Contains w.heard u × (is_of_source prefix router u ≡ true)

-- What one of our nodes ever announced for it.
abbrev pub WasSentFor : PrefixValue → List ℕ → ForeignWorld → UpdateValue → Type 0
WasSentFor prefix router w u = (node : ℕ) × Contains (updates_of node w.ours.sent) u × (is_of_source prefix router u ≡ true)

-- All seqnos for the source that were ever heard or announced are at most 32,767 ahead of this first one
-- (RFC 8966, section 3.2.1).
pub record AreInHalf (prefix : PrefixValue) (router : List ℕ) (start : ℕ) (w : ForeignWorld) : Type 0 where
  pub first : start < seqno_modulus
  pub heard : (u : UpdateValue) → WasHeardFor prefix router w u → lift start u.distance.seqno ≤ max_raises
  pub sent : (u : UpdateValue) → WasSentFor prefix router w u → lift start u.distance.seqno ≤ max_raises

-- No update that was ever heard for the source has an address of ours as its next hop.
abbrev pub NamesNoNode : List Config → PrefixValue → List ℕ → ForeignWorld → Type 0
NamesNoNode configs prefix router w = (u : UpdateValue) → WasHeardFor prefix router w u → owner_of configs u.next_hop ≡ None

-- ---- the view

-- The number of the node that has the address. A router of others has the number after our last node's.
abbrev pub sender_of : List Config → Addr → ℕ
sender_of configs addr = unwrap_or (owner_of configs addr) (length configs)

-- The node of this router-id, with the same number if it is no node's.
abbrev pub node_named : List Config → List ℕ → ℕ
node_named [] router = 0
node_named (c ∷ cs) router = if is_same_router c.router_id router then 0 else node_named cs router + 1

-- A prefix with any router-id, whose seqnos are counted from this one.
abbrev pub source_among : List Config → PrefixValue → List ℕ → ℕ → NetSource
source_among configs prefix router start =
    record { prefix = prefix; router = router; owner = node_named configs router; start = start }

-- The pick of a node whose selected route names the source: what it heard, from whoever sent it.
abbrev pub pick_among : List Config → NetSource → Option Selected → Option Pick
pick_among configs s None = None
pick_among configs s (Some c) =
    if is_same_router c.router s.router
    then Some (record { from = sender_of configs c.peer.addr; pair = lifted s c.distance })
    else None

abbrev pub node_view_among : List Config → NetSource → World → ℕ → NodeState
node_view_among configs s w node =
    record { sent = sent_by s w.sent node; pick = pick_among configs s ((speaker_at w node).selected_at s.prefix) }

-- The state of the machine for the source. The count is that of the owner's seqno.
abbrev pub view_among : List Config → NetSource → World → SourceState
view_among configs s w = record {
  owner = s.owner;
  raises = lift s.start (speaker_at w s.owner).seqno;
  nodes = map (node_view_among configs s w) (range_with_len 0 (length w.speakers));
}

-- A list of machine steps leads from one view to the other, and the latter has no cycle.
pub record IsRunAmong (configs : List Config) (s : NetSource) (old new : World) : Type 0 where
  pub steps : List Step
  pub run : RunAmong (view_among configs s old) steps (view_among configs s new)
  pub no_cycle : NoCycle (view_among configs s new)

-- ---- where traffic goes

-- The node that owns the next hop of the node's selected route to the prefix, if there is one. Among routers of others it may be
-- another one than the neighbour's (RFC 8966, section 4.6.8).
abbrev pub gateway_in : List Config → World → PrefixValue → ℕ → Option ℕ
gateway_in configs w prefix node = option_and_then (λ (c : Selected). owner_of configs c.next_hop) ((speaker_at w node).selected_at prefix)

-- The node's selected route to the prefix names the router-id, and its next hop is an address of the other node.
abbrev pub Forwards : List Config → World → PrefixValue → List ℕ → ℕ → ℕ → Type 0
Forwards configs w prefix router node next = (router_in w prefix node ≡ Some router) × (gateway_in configs w prefix node ≡ Some next)

-- No list of our nodes is a loop in which each forwards to the next by a route that names the router-id.
abbrev pub NoForwardingLoop : List Config → World → PrefixValue → List ℕ → Type 0
NoForwardingLoop configs w prefix router = (nodes : List ℕ) → ¬ IsLoop (Forwards configs w prefix router) nodes
