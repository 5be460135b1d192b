-- The messages that a speaker sends, one by one (profile).
use Rattle.std.specs.Prelude.{◌≡◌, ◌<◌, Bool, true, false, [], length, Option, Some, None, IsSome, drop}
use Rattle.std.specs.Option.{option_map_or}
use Rattle.babel_value.specs.Addresses.{family_of}
use Rattle.babel_value.specs.Prefixes.{PrefixValue}
use Rattle.babel_message.specs.declared.messages.Message.{Message}
use Rattle.babel_message.specs.declared.messages.Message.TheVariants as messages
use Rattle.babel_route.specs.Currency.{is_current}
use Rattle.babel_sources.specs.Distances.{improves_on}
use Rattle.babel_sources.specs.Rooms.{most_sources}
use Rattle.babel_state.specs.Addresses.{address_at}
use Rattle.babel_state.specs.declared.items.Outgoing.{Outgoing}
use Rattle.babel_state.specs.declared.items.Outgoing.TheVariants as outgoings
use Rattle.babel_state.specs.declared.items.Target.{Target}
use Rattle.babel_state.specs.State.{State, announces, cost_at, pair_at}
use Rattle.babel_state.specs.OutgoingMessages.{is_source_too_many}
use Rattle.babel_state.specs.NextDatagram.{Draft}

-- The source table has room for the source that the message names.
abbrev pub HasRoomFor : State → Message → Type 0
HasRoomFor s (messages.Update prefix router next_hop seqno metric interval) =
    is_source_too_many (record { prefix = prefix; router = router }) s.sources ≡ false
HasRoomFor s message = Unit {0}

abbrev pub HasRoom : State → Outgoing → Type 0
HasRoom s (outgoings.Message target message) = HasRoomFor s message
HasRoom s out = Unit {0}

-- It is a message to this target.
abbrev pub IsMessageTo : Target → Outgoing → Type 0
IsMessageTo target (outgoings.Message to message) = to ≡ target
IsMessageTo target out = ⊥

-- An update is sent, whatever it says: its interface has an address of the prefix's family, and the source table has room.
abbrev pub IsCertainlySent : Target → PrefixValue → State → Type 0
IsCertainlySent target prefix s =
    (length s.sources < most_sources) × IsSome (address_at target.iface (family_of prefix.addr) s)

-- A message that is sent changes the pair of its source: it's an Update that is better than the pair (RFC 8966, section 3.7.3).
abbrev pub changes_a_pair : Message → State → Bool
changes_a_pair (messages.Update prefix router next_hop seqno metric interval) s =
    improves_on (pair_at prefix router s) (record { seqno = seqno; metric = metric })
changes_a_pair message s = false

-- The prefix that an Update names.
abbrev pub named_prefix : Message → Option PrefixValue
named_prefix (messages.Update prefix router next_hop seqno metric interval) = Some prefix
named_prefix message = None

-- The selection of that prefix is current.
abbrev pub is_named_current : Message → State → Bool
is_named_current message s =
    option_map_or (λ prefix. is_current s.sources (cost_at s) prefix (announces prefix s) s.routes) (named_prefix message) true

-- A draft without target and messages.
abbrev pub no_draft : State → Draft
no_draft s = record { state = s; target = None; messages = [] }

-- The state without its oldest item.
abbrev pub without_front : State → State
without_front s = record s { pending = record s.pending { items = drop 1 s.pending.items } }
