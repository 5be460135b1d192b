-- What a speaker need not do while all its selections are current (profile).
use Rattle.std.specs.Prelude.{◌≡◌, ℕ, Bool, true}
use Rattle.std.specs.FinMap.{is_sorted}
use Rattle.babel_value.specs.declared.keys.Peer.{Peer}
use Rattle.babel_value.specs.Orders.{prefix_cmp}
use Rattle.babel_link.specs.declared.marks.Heard.TheVariants.{Kept}
use Rattle.babel_link.specs.Neighbours.{hello_verdict, ihu_of}
use Rattle.babel_state.specs.State.{State, cost_at}
use Rattle.babel_state.specs.Hellos.{hears}
use Rattle.babel_state.specs.Reselection.{reselect_all}
use Rattle.babel_state.specs.Ticks.{interfaces_ticked, requests_ticked}
use Rattle.babel_state.specs.CurrentSelections.{AreCurrent}

-- The selections are in the order of their prefixes.
abbrev pub AreSelectionsInOrder : State → Type 0
AreSelectionsInOrder s = is_sorted prefix_cmp s.routes.selections ≡ true

-- If all selections are current, reselecting all changes nothing: no selection, no request and no pending item.
abbrev pub SettledReselectsNothing : Type 0
SettledReselectsNothing = (now : ℕ) (s : State) → AreSelectionsInOrder s → AreCurrent s → reselect_all now s ≡ s

-- A Hello that flushes no neighbour and changes no cost of the link to its sender keeps all current.
abbrev pub HellosKeepCurrent : Type 0
HellosKeepCurrent =
    (now : ℕ) (peer : Peer) (unicast : Bool) (seqno interval : ℕ) (s : State) →
    hello_verdict peer unicast seqno s.neighbours ≡ Kept →
    cost_at (hears now peer unicast seqno interval s) peer ≡ cost_at s peer →
    AreCurrent s → AreCurrent (hears now peer unicast seqno interval s)

-- So does an IHU.
abbrev pub with_ihu : ℕ → Peer → ℕ → ℕ → State → State
with_ihu now peer rxcost interval s = record s { neighbours = ihu_of now peer rxcost interval s.neighbours }

abbrev pub IhusKeepCurrent : Type 0
IhusKeepCurrent =
    (now : ℕ) (peer : Peer) (rxcost interval : ℕ) (s : State) →
    cost_at (with_ihu now peer rxcost interval s) peer ≡ cost_at s peer →
    AreCurrent s → AreCurrent (with_ihu now peer rxcost interval s)

-- Repeated requests and the timers of the interfaces keep all current.
abbrev pub TimersKeepCurrent : Type 0
TimersKeepCurrent = (now : ℕ) (s : State) → AreCurrent s → AreCurrent (interfaces_ticked now (requests_ticked now s))
