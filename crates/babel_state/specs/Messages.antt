-- The step of a speaker for each message, and for a datagram (RFC 8966, sections 3.3 to 3.8).
use Rattle.std.specs.Prelude.{◌≡◌, ℕ, List, [], ◌∷◌, Option, Some, None, Result, Ok, if◌then◌else◌}
use Rattle.babel_value.specs.declared.keys.Peer.{Peer}
use Rattle.babel_message.specs.declared.messages.Message.{Message}
use Rattle.babel_message.specs.declared.messages.Message.TheVariants as messages
use Rattle.babel_message.specs.declared.placements.Content.{Content}
use Rattle.babel_message.specs.declared.placements.Content.TheVariants as contents
use Rattle.babel_message.specs.declared.placements.Placed.{Placed}
use Rattle.babel_message.specs.declared.errors.Refusal.{Refusal}
use Rattle.babel_packet.specs.Meaning.{meaning, Refuses}
use Rattle.babel_state.specs.declared.items.Item.TheVariants as items
use Rattle.babel_state.specs.declared.notes.Note.{Note}
use Rattle.babel_state.specs.declared.errors.RecvFault.{RecvFault}
use Rattle.babel_state.specs.declared.errors.RecvFault.TheVariants as faults
use Rattle.babel_state.specs.declared.notes.Verdict.TheVariants as verdicts
use Rattle.babel_state.specs.State.{State, is_neighbour}
use Rattle.babel_state.specs.Addresses.{source_fault}
use Rattle.babel_state.specs.Reselection.{queue}
use Rattle.babel_state.specs.Hellos.{Step, handle_hello, handle_ihu}
use Rattle.babel_state.specs.Updates.{handle_update, handle_retraction, handle_retract_all}
use Rattle.babel_state.specs.SeqnoRequests.{handle_route_request, handle_dump_request, handle_seqno_request}

-- A message of a neighbour.
abbrev pub handle_from_neighbour : ℕ → Peer → Message → State → Step
handle_from_neighbour now peer (messages.Ihu to rxcost interval) s = handle_ihu now peer to rxcost interval s
handle_from_neighbour now peer (messages.Update prefix router next_hop seqno metric interval) s =
    handle_update now peer prefix router next_hop (record { seqno = seqno; metric = metric }) interval s
handle_from_neighbour now peer (messages.Retraction prefix interval) s = handle_retraction now peer prefix s
handle_from_neighbour now peer (messages.RetractAll interval) s = handle_retract_all now peer s
handle_from_neighbour now peer (messages.RouteRequest prefix) s = handle_route_request peer prefix s
handle_from_neighbour now peer messages.DumpRequest s = handle_dump_request peer s
handle_from_neighbour now peer (messages.SeqnoRequest prefix router seqno hops) s =
    handle_seqno_request now peer (record { prefix = prefix; router = router }) seqno hops s
handle_from_neighbour now peer message s = (s, verdicts.Taken)

-- A message. A node that isn't a neighbour may say Hello and ask for an Ack (RFC 8966, section 3.3), and no more (profile).
unfoldable pub handle_message : ℕ → Peer → Message → State → Step
handle_message now peer (messages.AckRequest opaque interval) s = (queue (items.Ack peer opaque ∷ []) s, verdicts.Taken)
handle_message now peer (messages.Hello unicast seqno interval) s = handle_hello now peer unicast seqno interval s
handle_message now peer message s =
    if is_neighbour peer s then handle_from_neighbour now peer message s else (s, verdicts.UnknownNeighbour)

-- A place of a datagram.
abbrev pub handle_content : ℕ → Peer → Content → State → Step
handle_content now peer (contents.Message message) s = handle_message now peer message s
handle_content now peer contents.State s = (s, verdicts.State)
handle_content now peer (contents.Ignored reason) s = (s, verdicts.Ignored reason)

-- The state after places, each taken wholly before the next.
abbrev pub after_places : ℕ → Peer → List Placed → State → State
after_places now peer [] s = s
after_places now peer (x ∷ xs) s = after_places now peer xs (handle_content now peer x.content s).0

-- What became of each of them.
abbrev pub notes_of : ℕ → Peer → List Placed → State → List Note
notes_of now peer [] s = []
notes_of now peer (x ∷ xs) s =
    (record { offset = x.offset; verdict = (handle_content now peer x.content s).1 }) ∷
    notes_of now peer xs (handle_content now peer x.content s).0

-- A datagram that came: when, over which interface and from which address, and what is read in it.
pub record Arrival : Type 0 where
  pub now : ℕ
  pub peer : Peer
  pub read : Result (List Placed) Refusal

-- The datagram that has these octets.
abbrev pub arrival_of : ℕ → Peer → List ℕ → Arrival
arrival_of now peer octets = record { now = now; peer = peer; read = meaning octets peer.addr }

-- Why a speaker takes no datagram from its address, if so.
abbrev pub address_fault : Arrival → State → Option RecvFault
address_fault arrival s = source_fault arrival.peer.iface arrival.peer.addr s

-- A datagram's fault is the address's, if there is one, else the one by which it can't be read.
abbrev pub IsFirstFault : Option RecvFault → Result (List Placed) Refusal → RecvFault → Type 0
IsFirstFault (Some fault) read returned = returned ≡ fault
IsFirstFault None read returned = (refusal : Refusal) × (returned ≡ faults.Refused refusal) × Refuses refusal read

abbrev pub IsRecvFault : Arrival → State → RecvFault → Type 0
IsRecvFault arrival old returned = IsFirstFault (address_fault arrival old) arrival.read returned

-- What `receive` does if it returns notes: there is no fault, and the places of the datagram are taken, with a note for each.
abbrev pub Receives : Arrival → State → State → List Note → Type 0
Receives arrival old new notes =
    (placed : List Placed) × (address_fault arrival old ≡ None) × (arrival.read ≡ Ok placed)
    × (new ≡ after_places arrival.now arrival.peer placed old) × (notes ≡ notes_of arrival.now arrival.peer placed old)
