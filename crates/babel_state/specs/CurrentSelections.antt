-- What is promised of the selections after each call: that they are current (profile).
use Rattle.std.specs.Prelude.{◌≡◌, ℕ, ◌<◌, ◌≤◌, Bool, true, false, ◌&&◌, not, List, Some}
use Rattle.std.specs.List.{list_any}
use Rattle.babel_value.specs.declared.distances.Distance.{Distance}
use Rattle.babel_value.specs.declared.keys.Peer.{Peer}
use Rattle.babel_value.specs.Prefixes.{PrefixValue}
use Rattle.babel_value.specs.Lifts.{greatest_lift}
use Rattle.babel_value.specs.Seqnos.{seqno_modulus, lift}
use Rattle.babel_message.specs.declared.messages.Message.{Message}
use Rattle.babel_message.specs.declared.placements.Placed.{Placed}
use Rattle.babel_choice.specs.declared.entries.Entry.{Entry}
use Rattle.babel_choice.specs.declared.entries.Selection.{Selection}
use Rattle.std.specs.FinMap.{is_sorted}
use Rattle.babel_choice.specs.RouteKeys.{route_cmp}
use Rattle.babel_choice.specs.Routes.{Route, key_of}
use Rattle.babel_choice.specs.Choices.{routes_of, is_candidate, is_feasible_route}
use Rattle.babel_route.specs.Selections.{IsCurrent}
use Rattle.babel_state.specs.declared.configs.Config.{Config}
use Rattle.babel_state.specs.Reselection.{reselect_all}
use Rattle.babel_state.specs.Ticks.{ticked}
use Rattle.babel_state.specs.Grouping.{items_grouped}
use Rattle.babel_state.specs.Requesting.{seqnos_requested}
use Rattle.babel_state.specs.SeqnoRequests.{raised}
use Rattle.babel_state.specs.Messages.{handle_message, after_places}
use Rattle.babel_state.specs.LostLinks.{links_lost}
use Rattle.babel_state.specs.Calls.{first_state, announced_also, withdrawn}
use Rattle.babel_state.specs.State.{State, announces, cost_at, pair_at, entry_at, selected_at}

-- The selection of the prefix is current: it's the one that a reselection would leave in the present state (RFC 8966, section 3.6).
abbrev pub IsCurrentAt : PrefixValue → State → Type 0
IsCurrentAt prefix s = IsCurrent s.sources (cost_at s) prefix (announces prefix s) s.routes

-- At every prefix. With collection off it holds in a new speaker and after a tick, and every call but `next_datagram` keeps it.
abbrev pub AreCurrent : State → Type 0
AreCurrent s = (prefix : PrefixValue) → IsCurrentAt prefix s

abbrev pub KeepsCurrent : State → State → Type 0
KeepsCurrent old new = (prefix : PrefixValue) → IsCurrentAt prefix old → IsCurrentAt prefix new

-- The selected route is a candidate: feasible, with a finite metric, and not of an own prefix.
abbrev pub is_selection_candidate : PrefixValue → State → Selection → Bool
is_selection_candidate prefix s route =
    not (announces prefix s) && is_candidate s.sources (cost_at s) (key_of prefix route.peer, route.entry)

-- A route of the prefix that was unfeasible is feasible now. Sending lowers sources, and the order of seqnos isn't transitive: from seqnos that are more than half of the circle apart this can come.
abbrev pub becomes_feasible : State → State → Route → Bool
becomes_feasible old new route =
    not (is_feasible_route old.sources route) && is_feasible_route new.sources route

abbrev pub has_revived_route : PrefixValue → State → State → Bool
has_revived_route prefix old new = list_any (becomes_feasible old new) (routes_of prefix old.routes.entries)

-- What `next_datagram` keeps of the selections, with collection off.
pub record KeepsSelections (old new : State) : Type 0 where
  -- none changes
  pub unchanged : (prefix : PrefixValue) → selected_at prefix new ≡ selected_at prefix old
  -- each is a candidate after it
  pub candidate : (prefix : PrefixValue) (route : Selection) → selected_at prefix new ≡ Some route → is_selection_candidate prefix new route ≡ true
  -- and it is current if it was, unless an unfeasible route became feasible
  pub current : (prefix : PrefixValue) → IsCurrentAt prefix old → has_revived_route prefix old new ≡ false → IsCurrentAt prefix new

-- The seqno is at most 32,767 ahead of the first one.
abbrev pub IsInHalf : ℕ → ℕ → Type 0
IsInHalf first seqno = (seqno < seqno_modulus) × (lift first seqno ≤ greatest_lift)

-- The seqnos of the prefix's routes and sources lie in one half of the circle. There the order of seqnos is transitive.
pub record AreInHalf (first : ℕ) (prefix : PrefixValue) (s : State) : Type 0 where
  pub begins : first < seqno_modulus
  pub routes : (peer : Peer) (e : Entry) → entry_at prefix peer s ≡ Some e → IsInHalf first e.distance.seqno
  pub sources : (router : List ℕ) (d : Distance) → pair_at prefix router s ≡ Some d → IsInHalf first d.seqno

-- ---- what is proved of it

-- The routes are in the order of their keys.
abbrev pub AreRoutesInOrder : State → Type 0
AreRoutesInOrder s = is_sorted route_cmp s.routes.entries ≡ true

-- In a new speaker each selection is current.
abbrev pub NewSpeakersAreCurrent : Type 0
NewSpeakersAreCurrent = (c : Config) → AreCurrent (first_state c)

-- After all were reselected each selection is current.
abbrev pub ReselectionsMakeCurrent : Type 0
ReselectionsMakeCurrent = (now : ℕ) (s : State) → AreRoutesInOrder s → AreCurrent (reselect_all now s)

-- So it is after a tick, with collection off.
abbrev pub TicksMakeCurrent : Type 0
TicksMakeCurrent = (now : ℕ) (s : State) → s.collects ≡ false → AreRoutesInOrder s → AreCurrent (ticked now s)

-- Messages and calls keep each selection that is current.
abbrev pub MessagesKeepCurrent : Type 0
MessagesKeepCurrent = (now : ℕ) (peer : Peer) (message : Message) (s : State) → AreRoutesInOrder s → KeepsCurrent s (handle_message now peer message s).0

abbrev pub PlacesKeepCurrent : Type 0
PlacesKeepCurrent = (now : ℕ) (peer : Peer) (placed : List Placed) (s : State) → AreRoutesInOrder s → KeepsCurrent s (after_places now peer placed s)

abbrev pub AnnouncingKeepsCurrent : Type 0
AnnouncingKeepsCurrent = (prefix : PrefixValue) (s : State) → AreRoutesInOrder s → KeepsCurrent s (announced_also prefix s)

abbrev pub WithdrawingKeepsCurrent : Type 0
WithdrawingKeepsCurrent = (prefix : PrefixValue) (s : State) → AreRoutesInOrder s → KeepsCurrent s (withdrawn prefix s)

abbrev pub RaisingKeepsCurrent : Type 0
RaisingKeepsCurrent = (s : State) → KeepsCurrent s (raised s)

abbrev pub RequestingKeepsCurrent : Type 0
RequestingKeepsCurrent = (now : ℕ) (s : State) → KeepsCurrent s (seqnos_requested now s)

abbrev pub LosingKeepsCurrent : Type 0
LosingKeepsCurrent = (now iface : ℕ) (s : State) → AreRoutesInOrder s → KeepsCurrent s (links_lost now iface s)

abbrev pub GroupingKeepsCurrent : Type 0
GroupingKeepsCurrent = (s : State) → KeepsCurrent s (items_grouped s)
