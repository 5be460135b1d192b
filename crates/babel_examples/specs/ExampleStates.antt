-- States and messages of the examples, by hand (profile).
use Rattle.std.specs.Prelude.{ℕ, true, false, List, [], ◌∷◌, ◌++◌, replicate, Some, None}
use Rattle.babel_value.specs.declared.addresses.Addr.{Addr}
use Rattle.babel_value.specs.declared.addresses.Addr.TheVariants.{V4, V6}
use Rattle.babel_value.specs.declared.addresses.Family.TheVariants.{Ipv4}
use Rattle.babel_value.specs.declared.keys.Peer.{Peer}
use Rattle.babel_value.specs.declared.keys.Source.{Source}
use Rattle.babel_value.specs.Prefixes.{PrefixValue}
use Rattle.babel_link.specs.declared.links.Link.{Link}
use Rattle.babel_message.specs.declared.messages.Message.{Message}
use Rattle.babel_message.specs.declared.messages.Message.TheVariants as messages
use Rattle.babel_state.specs.declared.interfaces.InterfaceEntry.{InterfaceEntry}
use Rattle.babel_state.specs.declared.items.Item.{Item}
use Rattle.babel_state.specs.declared.items.Target.{Target}
use Rattle.babel_state.specs.declared.notes.Verdict.{Verdict}
use Rattle.babel_state.specs.State.{State}
use Rattle.babel_state.specs.Messages.{handle_message}
use Rattle.babel_state.specs.NextDatagram.{Fits, Draft, next_datagram}
pub use Rattle.babel_state.specs.OutgoingMessages.{to_all}
pub use Rattle.babel_examples.specs.SourceExamples.{pair}

-- ---- values

-- The router-id 0000000000000001, and so on.
abbrev pub router : ℕ → List ℕ
router n = 0 ∷ 0 ∷ 0 ∷ 0 ∷ 0 ∷ 0 ∷ 0 ∷ n ∷ []

-- 192.168.0.n
abbrev pub addr : ℕ → Addr
addr n = V4 (192 ∷ 168 ∷ 0 ∷ n ∷ [])

-- It is on interface 0.
abbrev pub peer : ℕ → Peer
peer n = record { iface = 0; addr = addr n }

-- 10.0.0.0/8
abbrev pub ten : PrefixValue
ten = record { addr = V4 (10 ∷ 0 ∷ 0 ∷ 0 ∷ []); length = 8 }

-- 10.n.0.0/16
abbrev pub net : ℕ → PrefixValue
net n = record { addr = V4 (10 ∷ n ∷ 0 ∷ 0 ∷ []); length = 16 }

-- fe80::1, and its prefix of 64 bits.
abbrev pub link_local : Addr
link_local = V6 (254 ∷ 128 ∷ replicate 13 0 ++ 1 ∷ [])

abbrev pub ipv6_prefix : PrefixValue
ipv6_prefix = record { addr = V6 (254 ∷ 128 ∷ replicate 14 0); length = 64 }

-- 10.0.0.0/8 of router n.
abbrev pub ten_of : ℕ → Source
ten_of n = record { prefix = ten; router = router n }

abbrev pub to_one : ℕ → Target
to_one n = record { iface = 0; to = Some (addr n) }

-- ---- states

-- Interface 192.168.n.2/24 with the defaults of a configuration.
abbrev pub interface : ℕ → InterfaceEntry
interface n = record {
  transport = Ipv4;
  ipv4 = Some (192 ∷ 168 ∷ n ∷ 2 ∷ [], 24);
  ipv6 = None;
  cost = 96;
  hello = 400;
  hello_seqno = 0;
  hello_due = None;
  ihu_due = None;
  update_due = None;
}

-- Router 2 with one interface, new.
abbrev pub start : State
start = record {
  router = router 2;
  collects = false;
  seqno = 0;
  raises = 0;
  announced = [];
  interfaces = interface 0 ∷ [];
  neighbours = [];
  sources = [];
  routes = record { entries = []; selections = [] };
  requests = [];
  pending = record { items = []; dropped = 0 };
  left_out = 0;
}

-- A neighbour of whom two Hellos came, and an IHU with rxcost 96: the link's cost is 96.
abbrev pub up_link : Link
up_link = record {
  multicast = Some (record { marks = record { marks = true ∷ true ∷ []; expected = 2 }; timer = None });
  unicast = None;
  txcost = 96;
  txcost_due = None;
}

-- With the neighbours 1 and 3.
abbrev pub meshed : State
meshed = record start { neighbours = (peer 1, up_link) ∷ (peer 3, up_link) ∷ [] }

abbrev pub with_pending : List Item → State → State
with_pending xs s = record s { pending = record { items = xs; dropped = 0 } }

-- The prefix 10.1.0.0/16 is announced too.
abbrev pub announcing : State → State
announcing s = record s { announced = (net 1, tt) ∷ [] }

-- ---- messages

-- Neighbour n advertises 10.0.0.0/8 from router r.
abbrev pub update : ℕ → ℕ → ℕ → ℕ → Message
update n r seqno metric = messages.Update ten (router r) (addr n) seqno metric 1600

-- What is asked for 10.0.0.0/8 of router r.
abbrev pub seqno_request : ℕ → ℕ → ℕ → Message
seqno_request r seqno hops = messages.SeqnoRequest ten (router r) seqno hops

-- The state after a message of neighbour n, and the message's verdict.
abbrev pub after : ℕ → ℕ → Message → State → State
after now n message s = (handle_message now (peer n) message s).0

abbrev pub verdict : ℕ → ℕ → Message → State → Verdict
verdict now n message s = (handle_message now (peer n) message s).1

abbrev pub queued_items : State → List Item
queued_items s = s.pending.items

-- ---- what is sent

abbrev pub all_fit : Fits
all_fit target messages message = true

abbrev pub datagram : ℕ → State → Draft
datagram now s = next_datagram now all_fit s

-- The state after all pending items were sent, in at most two datagrams.
abbrev pub sent : ℕ → State → State
sent now s = (datagram now (datagram now s).state).state
