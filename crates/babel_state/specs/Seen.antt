-- What a network sees of a speaker (profile): the loop freedom of the network rests on these definitions alone.
use Rattle.std.specs.Prelude.{◌≡◌, ◌⊎◌, ◌<◌, ◌+◌, ◌%◌, ℕ, Bool, true, false, ◌&&◌, ◌||◌, not, nat_lt, List, [], ◌∷◌, ◌++◌, filter, slice_get, All, Contains, Option, Some, None, if◌then◌else◌}
use Rattle.std.specs.Option.{option_and_then}
use Rattle.std.specs.Ordering.{eq_by_cmp}
use Rattle.babel_value.specs.declared.addresses.Addr.{Addr}
use Rattle.babel_value.specs.declared.addresses.Family.{Family}
use Rattle.babel_value.specs.declared.distances.Distance.{Distance}
use Rattle.babel_value.specs.declared.keys.Peer.{Peer}
use Rattle.babel_value.specs.Addresses.{family_of}
use Rattle.babel_value.specs.Orders.{source_cmp}
use Rattle.babel_value.specs.Prefixes.{PrefixValue}
use Rattle.babel_value.specs.Metrics.{infinity}
use Rattle.babel_value.specs.Seqnos.{seqno_modulus}
use Rattle.babel_message.specs.declared.messages.Message.{Message}
use Rattle.babel_message.specs.declared.messages.Message.TheVariants as messages
use Rattle.babel_choice.specs.declared.entries.Entry.{Entry}
use Rattle.babel_sources.specs.Distances.{is_feasible, better_pair}
use Rattle.babel_state.specs.declared.configs.Config.{Config}
use Rattle.babel_state.specs.declared.selected.Selected.{Selected}
use Rattle.babel_state.specs.Sameness.{is_same_prefix, has_prefix}
use Rattle.babel_state.specs.Queueing.{counted}
use Rattle.babel_state.specs.State.{State, announces, pair_at, entry_at}
use Rattle.babel_state.specs.Addresses.{address_of, transport_of, address_at, transport_at}
use Rattle.babel_state.specs.Calls.{new_interface, selected_route}

-- ---- finite updates

-- What a finite Update advertises: a prefix, a router-id, a distance and a next hop.
pub record UpdateValue : Type 0 where
  pub prefix : PrefixValue
  pub router : List ℕ
  pub distance : Distance
  pub next_hop : Addr

abbrev pub update_of : Message → List UpdateValue
update_of (messages.Update prefix router next_hop seqno metric interval) =
    (record { prefix = prefix; router = router; distance = record { seqno = seqno; metric = metric }; next_hop = next_hop }) ∷ []
update_of message = []

-- The finite Updates among messages.
abbrev pub updates_among : List Message → List UpdateValue
updates_among [] = []
updates_among (m ∷ ms) = update_of m ++ updates_among ms

-- ---- what is seen

-- A route without its times.
pub record HeardValue : Type 0 where
  pub router : List ℕ
  pub distance : Distance
  pub next_hop : Addr

abbrev pub heard_if_finite : Entry → Option HeardValue
heard_if_finite e =
    if nat_lt e.distance.metric infinity then Some (record { router = e.router; distance = e.distance; next_hop = e.next_hop })
    else None

-- A neighbour's finite route to the prefix.
abbrev pub heard_at : PrefixValue → Peer → State → Option HeardValue
heard_at prefix peer s = option_and_then heard_if_finite (entry_at prefix peer s)

pub record Seen : Type 0 where
  -- what never changes: the router-id, whether sources are collected, and the addresses of each interface
  pub router : List ℕ
  pub collects : Bool
  pub transport_at : ℕ → Option Addr
  pub address_at : ℕ → Family → Option Addr
  -- the own seqno and prefixes
  pub seqno : ℕ
  pub raises : ℕ
  pub announces : PrefixValue → Bool
  -- the source table
  pub source_at : PrefixValue → List ℕ → Option Distance
  -- the finite routes
  pub heard_at : PrefixValue → Peer → Option HeardValue
  -- the selected ones
  pub selected_at : PrefixValue → Option Selected

unfoldable pub seen : State → Seen
seen s = record {
  router = s.router;
  collects = s.collects;
  transport_at = λ iface. transport_at iface s;
  address_at = λ iface family. address_at iface family s;
  seqno = s.seqno;
  raises = s.raises;
  announces = λ prefix. announces prefix s;
  source_at = λ prefix router. pair_at prefix router s;
  heard_at = λ prefix peer. heard_at prefix peer s;
  selected_at = λ prefix. selected_route prefix s;
}

-- ---- after every call

abbrev pub heard_of : Selected → HeardValue
heard_of c = record { router = c.router; distance = c.distance; next_hop = c.next_hop }

-- Each selected route is a finite route of the table, is feasible, and has a finite metric above the advertised one.
pub record IsSelecting (s : Seen) : Type 0 where
  pub entry : (prefix : PrefixValue) (c : Selected) → s.selected_at prefix ≡ Some c → s.heard_at prefix c.peer ≡ Some (heard_of c)
  pub feasible : (prefix : PrefixValue) (c : Selected) → s.selected_at prefix ≡ Some c → is_feasible (s.source_at prefix c.router) c.distance ≡ true
  pub above : (prefix : PrefixValue) (c : Selected) → s.selected_at prefix ≡ Some c → (c.distance.metric < c.metric) × (c.metric < infinity)

-- No finite route names the own router-id. The speaker's own updates come back to it, and it stores none of them (profile).
abbrev pub NamesOthers : Seen → Type 0
NamesOthers s = (prefix : PrefixValue) (from : Peer) (h : HeardValue) → s.heard_at prefix from ≡ Some h → ¬ (h.router ≡ s.router)

-- ---- every call but `next_datagram`

-- A route that is new was heard from the peer.
abbrev pub IsHeardFrom : Peer → List UpdateValue → PrefixValue → Peer → HeardValue → Type 0
IsHeardFrom peer updates prefix from h =
    (from ≡ peer) × Contains updates (record { prefix = prefix; router = h.router; distance = h.distance; next_hop = h.next_hop })

-- Which prefixes are announced after `announce`, and after `withdraw`.
abbrev pub announcing_also : PrefixValue → Seen → PrefixValue → Bool
announcing_also added s prefix = is_same_prefix prefix added || s.announces prefix

abbrev pub announcing_without : PrefixValue → Seen → PrefixValue → Bool
announcing_without removed s prefix = not (is_same_prefix prefix removed) && s.announces prefix

-- With these updates of a peer; the own seqno grew so often, and these prefixes are announced after it.
pub record Moves (peer : Peer) (updates : List UpdateValue) (growths : ℕ) (announced : PrefixValue → Bool) (old new : Seen) : Type 0 where
  pub router : new.router ≡ old.router
  pub collects : new.collects ≡ old.collects
  pub transports : (iface : ℕ) → new.transport_at iface ≡ old.transport_at iface
  pub addresses : (iface : ℕ) (family : Family) → new.address_at iface family ≡ old.address_at iface family
  pub seqno : new.seqno ≡ (old.seqno + growths) % seqno_modulus
  pub raises : new.raises ≡ counted old.raises growths
  pub announces : (prefix : PrefixValue) → new.announces prefix ≡ announced prefix
  pub sources : old.collects ≡ false → (prefix : PrefixValue) (router : List ℕ) → new.source_at prefix router ≡ old.source_at prefix router
  pub entries : (prefix : PrefixValue) (from : Peer) (h : HeardValue) → new.heard_at prefix from ≡ Some h →
      (old.heard_at prefix from ≡ Some h) ⊎ IsHeardFrom peer updates prefix from h
  -- no route with the own router-id comes in, whatever was heard
  pub others : NamesOthers old → NamesOthers new
  pub selecting : IsSelecting new

-- ---- `next_datagram`

-- The update is of an own prefix, with the own router-id and seqno and metric 0; or of a selected route, with its router-id, seqno and metric.
abbrev pub IsOwnUpdate : Seen → UpdateValue → Type 0
IsOwnUpdate s u =
    (s.announces u.prefix ≡ true) × (u.router ≡ s.router) × (u.distance ≡ record { seqno = s.seqno; metric = 0 })

abbrev pub IsRouteUpdate : Seen → UpdateValue → Type 0
IsRouteUpdate s u =
    (c : Selected) × (s.selected_at u.prefix ≡ Some c) × (u.router ≡ c.router) × (u.distance ≡ record { seqno = c.distance.seqno; metric = c.metric })

abbrev pub Advertises : Seen → UpdateValue → Type 0
Advertises s u = IsOwnUpdate s u ⊎ IsRouteUpdate s u

-- Its next hop is the interface's own address of the prefix's family.
abbrev pub NamesOwnAddress : Seen → ℕ → UpdateValue → Type 0
NamesOwnAddress s iface u = s.address_at iface (family_of u.prefix.addr) ≡ Some u.next_hop

-- The distance of a source after updates, in their order (RFC 8966, section 3.7.3).
abbrev pub is_of_source : PrefixValue → List ℕ → UpdateValue → Bool
is_of_source prefix router u =
    eq_by_cmp source_cmp (record { prefix = prefix; router = router }) (record { prefix = u.prefix; router = u.router })

abbrev pub all_lowered : List UpdateValue → Option Distance → Option Distance
all_lowered [] pair = pair
all_lowered (u ∷ us) pair = all_lowered us (Some (better_pair pair u.distance))

-- With these updates in a datagram over the interface.
pub record Sends (iface : ℕ) (updates : List UpdateValue) (old new : Seen) : Type 0 where
  pub advertised : All (Advertises old) updates
  pub next_hops : All (NamesOwnAddress old iface) updates
  pub router : new.router ≡ old.router
  pub collects : new.collects ≡ old.collects
  pub transports : (iface : ℕ) → new.transport_at iface ≡ old.transport_at iface
  pub addresses : (iface : ℕ) (family : Family) → new.address_at iface family ≡ old.address_at iface family
  pub seqno : new.seqno ≡ old.seqno
  pub raises : new.raises ≡ old.raises
  pub announces : (prefix : PrefixValue) → new.announces prefix ≡ old.announces prefix
  pub sources : (prefix : PrefixValue) (router : List ℕ) →
      new.source_at prefix router ≡ all_lowered (filter (is_of_source prefix router) updates) (old.source_at prefix router)
  pub entries : (prefix : PrefixValue) (from : Peer) → new.heard_at prefix from ≡ old.heard_at prefix from
  pub selected : (prefix : PrefixValue) → new.selected_at prefix ≡ old.selected_at prefix
  pub selecting : IsSelecting new

-- ---- a new speaker

-- It is as configured, and has no source, route or selection.
pub record IsNew (c : Config) (s : Seen) : Type 0 where
  pub router : s.router ≡ c.router_id
  pub collects : s.collects ≡ c.collect
  pub transports : (iface : ℕ) → s.transport_at iface ≡ option_and_then (λ i. transport_of (new_interface i)) (slice_get c.interfaces.items iface)
  pub addresses : (iface : ℕ) (family : Family) → s.address_at iface family ≡ option_and_then (λ i. address_of family (new_interface i)) (slice_get c.interfaces.items iface)
  pub seqno : s.seqno ≡ c.seqno
  pub raises : s.raises ≡ 0
  pub announces : (prefix : PrefixValue) → s.announces prefix ≡ has_prefix prefix c.prefixes.items
  pub sources : (prefix : PrefixValue) (router : List ℕ) → s.source_at prefix router ≡ None
  pub entries : (prefix : PrefixValue) (from : Peer) → s.heard_at prefix from ≡ None
  pub selected : (prefix : PrefixValue) → s.selected_at prefix ≡ None
