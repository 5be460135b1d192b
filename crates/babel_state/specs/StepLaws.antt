-- What steps leave as it was (profile). The loop freedom of a network rests on this: a source changes by sending alone.
use Rattle.std.specs.Prelude.{◌≡◌, ◌⊎◌, ℕ, Bool, false, List, [], map, slice_get, slice_set, Option, None}
use Rattle.std.specs.List.{filter}
use Rattle.std.specs.Option.{option_map_or}
use Rattle.babel_value.specs.declared.keys.Peer.{Peer}
use Rattle.babel_value.specs.Prefixes.{PrefixValue}
use Rattle.babel_value.specs.Seqnos.{next_seqno}
use Rattle.babel_message.specs.declared.messages.Message.{Message}
use Rattle.babel_link.specs.Neighbours.{Links}
use Rattle.babel_route.specs.Selections.{RoutesValue}
use Rattle.babel_sources.specs.Sources.{Sources}
use Rattle.babel_state.specs.declared.interfaces.InterfaceEntry.{InterfaceEntry}
use Rattle.babel_state.specs.Queueing.{counted}
use Rattle.babel_state.specs.PendingRequests.{PendingRequests}
use Rattle.babel_state.specs.State.{State, PrefixSet, pair_at}
use Rattle.babel_state.specs.Reselection.{UnfeasibleUpdate, reselect, reselect_all}
use Rattle.babel_state.specs.Calls.{cost_set, announced_also, withdrawn}
use Rattle.babel_state.specs.Messages.{handle_message}
use Rattle.babel_state.specs.LostLinks.{links_lost}
use Rattle.babel_state.specs.Ticks.{ticked}
use Rattle.babel_state.specs.NextDatagram.{Fits, next_datagram}
use Rattle.babel_state.specs.Grouping.{items_grouped}
use Rattle.babel_state.specs.Requesting.{seqnos_requested}
use Rattle.babel_state.specs.SeqnoRequests.{raised}
use Rattle.babel_state.specs.Seen.{updates_among, is_of_source, all_lowered}

-- What of an interface never changes but by `set_cost`: its addresses, its cost and its Hello interval.
abbrev pub settings_of : InterfaceEntry → InterfaceEntry
settings_of i = record i { hello_seqno = 0; hello_due = None; ihu_due = None; update_due = None }

abbrev pub settings_in : State → List InterfaceEntry
settings_in s = map settings_of s.interfaces

-- What is the speaker's own: its router-id, seqno, prefixes and interfaces, and the distances that it sent.
pub record OwnValue : Type 0 where
  pub router : List ℕ
  pub collects : Bool
  pub seqno : ℕ
  pub raises : ℕ
  pub announced : PrefixSet
  pub interfaces : List InterfaceEntry
  pub sources : Sources
  pub left_out : ℕ

unfoldable pub own_of : State → OwnValue
own_of s = record {
  router = s.router;
  collects = s.collects;
  seqno = s.seqno;
  raises = s.raises;
  announced = s.announced;
  interfaces = settings_in s;
  sources = s.sources;
  left_out = s.left_out;
}

-- The own seqno grew by 1.
abbrev pub grown : OwnValue → OwnValue
grown o = record o { seqno = next_seqno o.seqno; raises = counted o.raises 1 }

abbrev pub KeepsOwn : State → State → Type 0
KeepsOwn old new = own_of new ≡ own_of old

abbrev pub GrowsOnce : State → State → Type 0
GrowsOnce old new = own_of new ≡ grown (own_of old)

-- A message keeps it, but for the own seqno, which grows at most once.
abbrev pub MessagesKeepOwn : Type 0
MessagesKeepOwn =
    (now : ℕ) (peer : Peer) (message : Message) (s : State) →
    KeepsOwn s (handle_message now peer message s).0 ⊎ GrowsOnce s (handle_message now peer message s).0

-- A tick keeps it, with collection off.
abbrev pub TicksKeepOwn : Type 0
TicksKeepOwn = (now : ℕ) (s : State) → s.collects ≡ false → KeepsOwn s (ticked now s)

-- So do links that are lost.
abbrev pub LosingKeepsOwn : Type 0
LosingKeepsOwn = (now iface : ℕ) (s : State) → KeepsOwn s (links_lost now iface s)

-- ---- sending

-- What the speaker knows of itself and of others.
pub record KnownValue : Type 0 where
  pub router : List ℕ
  pub collects : Bool
  pub seqno : ℕ
  pub raises : ℕ
  pub announced : PrefixSet
  pub interfaces : List InterfaceEntry
  pub neighbours : Links
  pub routes : RoutesValue
  pub requests : PendingRequests

unfoldable pub known_of : State → KnownValue
known_of s = record {
  router = s.router;
  collects = s.collects;
  seqno = s.seqno;
  raises = s.raises;
  announced = s.announced;
  interfaces = settings_in s;
  neighbours = s.neighbours;
  routes = s.routes;
  requests = s.requests;
}

-- A datagram that is sent changes nothing of it: no selection, above all.
abbrev pub SendingKeepsKnown : Type 0
SendingKeepsKnown = (now : ℕ) (fits : Fits) (s : State) → known_of (next_datagram now fits s).state ≡ known_of s

-- And each source is lowered by exactly the Updates that it has for it, in their order (RFC 8966, section 3.7.3).
abbrev pub SendingLowersSources : Type 0
SendingLowersSources =
    (now : ℕ) (fits : Fits) (s : State) (prefix : PrefixValue) (router : List ℕ) →
    pair_at prefix router (next_datagram now fits s).state
    ≡ all_lowered (filter (is_of_source prefix router) (updates_among (next_datagram now fits s).messages)) (pair_at prefix router s)

-- ---- reselections

-- The state without requests and pending items.
unfoldable pub kept_of : State → State
kept_of s = record s { requests = []; pending = record { items = []; dropped = 0 } }

-- And without the selections.
unfoldable pub base_of : State → State
base_of s = record s {
  requests = [];
  pending = record { items = []; dropped = 0 };
  routes = record s.routes { selections = [] };
}

-- A reselection keeps all else.
abbrev pub ReselectionKeepsBase : Type 0
ReselectionKeepsBase =
    (now : ℕ) (cause : Option UnfeasibleUpdate) (prefix : PrefixValue) (s : State) →
    base_of (reselect now cause prefix s) ≡ base_of s

abbrev pub ReselectionOfAllKeepsBase : Type 0
ReselectionOfAllKeepsBase = (now : ℕ) (s : State) → base_of (reselect_all now s) ≡ base_of s

-- Requests for a greater seqno keep the selections too.
abbrev pub RequestingKeepsTheRest : Type 0
RequestingKeepsTheRest = (now : ℕ) (s : State) → kept_of (seqnos_requested now s) ≡ kept_of s

-- ---- the interfaces

-- No step but `set_cost` changes an interface's addresses, cost or Hello interval.
abbrev pub KeepsSettings : State → State → Type 0
KeepsSettings old new = settings_in new ≡ settings_in old

abbrev pub MessagesKeepSettings : Type 0
MessagesKeepSettings = (now : ℕ) (peer : Peer) (message : Message) (s : State) → KeepsSettings s (handle_message now peer message s).0

abbrev pub TicksKeepSettings : Type 0
TicksKeepSettings = (now : ℕ) (s : State) → KeepsSettings s (ticked now s)

abbrev pub SendingKeepsSettings : Type 0
SendingKeepsSettings = (now : ℕ) (fits : Fits) (s : State) → KeepsSettings s (next_datagram now fits s).state

abbrev pub AnnouncingKeepsSettings : Type 0
AnnouncingKeepsSettings = (prefix : PrefixValue) (s : State) → KeepsSettings s (announced_also prefix s)

abbrev pub WithdrawingKeepsSettings : Type 0
WithdrawingKeepsSettings = (prefix : PrefixValue) (s : State) → KeepsSettings s (withdrawn prefix s)

abbrev pub RaisingKeepsSettings : Type 0
RaisingKeepsSettings = (s : State) → KeepsSettings s (raised s)

abbrev pub RequestingKeepsSettings : Type 0
RequestingKeepsSettings = (now : ℕ) (s : State) → KeepsSettings s (seqnos_requested now s)

abbrev pub LosingKeepsSettings : Type 0
LosingKeepsSettings = (now iface : ℕ) (s : State) → KeepsSettings s (links_lost now iface s)

abbrev pub GroupingKeepsSettings : Type 0
GroupingKeepsSettings = (s : State) → KeepsSettings s (items_grouped s)

-- And `set_cost` changes the cost of its interface alone.
abbrev pub with_cost_at : ℕ → ℕ → List InterfaceEntry → List InterfaceEntry
with_cost_at iface cost interfaces =
    option_map_or (λ (i : InterfaceEntry). slice_set interfaces iface (record i { cost = cost })) (slice_get interfaces iface) interfaces

abbrev pub CostsSetOneCost : Type 0
CostsSetOneCost = (iface cost : ℕ) (s : State) → settings_in (cost_set iface cost s) ≡ with_cost_at iface cost (settings_in s)
