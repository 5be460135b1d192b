-- Hellos and IHUs (RFC 8966, section 3.4).
use Rattle.std.specs.Prelude.{ℕ, Bool, true, false, ◌&&◌, not, ◌==◌, length, Option, Some, None, if◌then◌else◌}
use Rattle.std.specs.Option.{option_map_or}
use Rattle.babel_value.specs.declared.addresses.Addr.{Addr}
use Rattle.babel_value.specs.declared.keys.Peer.{Peer}
use Rattle.babel_link.specs.declared.marks.Heard.{Heard}
use Rattle.babel_link.specs.declared.marks.Heard.TheVariants.{Kept, Flush}
use Rattle.babel_link.specs.Neighbours.{max_neighbours, hello_of, hello_verdict, ihu_of}
use Rattle.babel_choice.specs.Routes.{forgotten}
use Rattle.babel_state.specs.declared.notes.Verdict.{Verdict}
use Rattle.babel_state.specs.declared.notes.Verdict.TheVariants.{Taken, TableFull, OtherAddress}
use Rattle.babel_state.specs.State.{State, interface_at, is_neighbour, with_entries}
use Rattle.babel_state.specs.Addresses.{is_own_address}
use Rattle.babel_state.specs.Reselection.{reselect_all}

-- What a message leads to: the state after it, and what became of it.
abbrev pub Step : Type 0
Step = State × Verdict

-- A neighbour is flushed: its routes go with it (profile).
abbrev pub forget_neighbour : Peer → State → State
forget_neighbour peer s = with_entries (forgotten peer s.routes.entries) s

abbrev pub forgets_flushed : Heard → Peer → State → State
forgets_flushed Kept peer s = s
forgets_flushed Flush peer s = forget_neighbour peer s

-- A Hello makes or keeps a neighbour; one that is far off flushes it (RFC 8966, section 3.4.1 and appendix A.1).
abbrev pub hears : ℕ → Peer → Bool → ℕ → ℕ → State → State
hears now peer unicast seqno interval s =
    forgets_flushed (hello_verdict peer unicast seqno s.neighbours) peer
    (record s { neighbours = hello_of now peer unicast seqno interval s.neighbours })

-- There is no room for the sender (profile).
abbrev pub is_neighbour_too_many : Peer → State → Bool
is_neighbour_too_many peer s = not (is_neighbour peer s) && (length s.neighbours == max_neighbours)

-- A Hello. Costs may change by it, so that all routes are selected again (RFC 8966, section 3.4.1).
unfoldable pub handle_hello : ℕ → Peer → Bool → ℕ → ℕ → State → Step
handle_hello now peer unicast seqno interval s =
    if is_neighbour_too_many peer s then (reselect_all now s, TableFull)
    else (reselect_all now (hears now peer unicast seqno interval s), Taken)

-- An IHU is for this speaker where it is for all, or for an own address of the interface over which it came.
abbrev pub is_for_interface : ℕ → Option Addr → State → Bool
is_for_interface iface None s = true
is_for_interface iface (Some addr) s = option_map_or (is_own_address addr) (interface_at iface s) false

-- An IHU of a neighbour (RFC 8966, section 3.4.2).
unfoldable pub handle_ihu : ℕ → Peer → Option Addr → ℕ → ℕ → State → Step
handle_ihu now peer to rxcost interval s =
    if is_for_interface peer.iface to s
    then (reselect_all now (record s { neighbours = ihu_of now peer rxcost interval s.neighbours }), Taken)
    else (s, OtherAddress)
