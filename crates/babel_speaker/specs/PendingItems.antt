-- The pending items of a speaker, and what datagrams take of them (profile).
use Rattle.std.specs.Prelude.{◌≡◌, ◌<◌, ℕ, List, Some, length, map}
use Rattle.babel_value.specs.Prefixes.{PrefixValue}
use Rattle.babel_state.specs.declared.items.Item.TheVariants.{Update}
use Rattle.babel_state.specs.declared.items.Target.{Target}
use Rattle.babel_state.specs.NextDatagram.{Fits, next_datagram}
use Rattle.babel_state.specs.Queueing.{Pending}
use Rattle.babel_state.specs.State.{State}

-- Nothing but Updates to one target.
abbrev pub updates_only : Target → List PrefixValue → ℕ → Pending
updates_only target prefixes dropped = record { items = map (Update target) prefixes; dropped = dropped }

-- Each datagram takes at least one of them.
abbrev pub DatagramsTakeItems : Type 0
DatagramsTakeItems =
    (now : ℕ) (fits : Fits) (s : State) (target : Target) → (next_datagram now fits s).target ≡ Some target →
    length (next_datagram now fits s).state.pending.items < length s.pending.items
