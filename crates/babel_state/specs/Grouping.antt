-- The pending items in groups that go to the same target, so that a datagram takes as many of them as fit (RFC 8966, section 4: a node should maximise the
-- size of the datagrams that it sends).
use Rattle.std.specs.Prelude.{◌≡◌, ℕ, zero, suc, Bool, not, List, [], ◌∷◌, ◌++◌, filter}
use Rattle.babel_state.specs.declared.items.Item.{Item}
use Rattle.babel_state.specs.declared.items.Item.TheVariants as items
use Rattle.babel_state.specs.declared.items.Outgoing.{Outgoing}
use Rattle.babel_state.specs.declared.items.Outgoing.TheVariants as outgoings
use Rattle.babel_state.specs.declared.items.Target.{Target}
use Rattle.babel_state.specs.NextDatagram.{is_same_target}
use Rattle.babel_state.specs.OutgoingMessages.{to_all, to_peer, outgoing}
use Rattle.babel_state.specs.State.{State}

-- Where the message of an item goes, if it means one.
abbrev pub item_target : Item → Target
item_target (items.Hello iface) = to_all iface
item_target (items.Ihu peer) = to_all peer.iface
item_target (items.Update target prefix) = target
item_target (items.Request peer source seqno hops) = to_peer peer
item_target (items.Ack peer opaque) = to_peer peer

abbrev pub goes_to : Target → Item → Bool
goes_to target item = is_same_target target (item_target item)

abbrev pub goes_elsewhere : Target → Item → Bool
goes_elsewhere target item = not (goes_to target item)

-- The items that go where the first one goes, in their order.
abbrev pub first_group : List Item → List Item
first_group [] = []
first_group (x ∷ xs) = filter (goes_to (item_target x)) (x ∷ xs)

-- The others, in theirs.
abbrev pub other_items : List Item → List Item
other_items [] = []
other_items (x ∷ xs) = filter (goes_elsewhere (item_target x)) (x ∷ xs)

-- Group after group, each as early as its first item, and at most so many; then all that are left.
abbrev pub in_groups : ℕ → List Item → List Item
in_groups zero xs = xs
in_groups (suc n) xs = first_group xs ++ in_groups n (other_items xs)

-- As many as there are datagrams in a turn.
abbrev pub most_groups : ℕ
most_groups = 64

unfoldable pub items_grouped : State → State
items_grouped s = record s { pending = record s.pending { items = in_groups most_groups s.pending.items } }

-- ---- its laws

-- What an item means goes to its target.
abbrev pub GoesTo : Target → Outgoing → Type 0
GoesTo to (outgoings.Message target message) = target ≡ to
GoesTo to outgoing = Unit {0}

abbrev pub ItemsGoToTargets : Type 0
ItemsGoToTargets = (s : State) (x : Item) → GoesTo (item_target x) (outgoing s x)

-- Each target has the same items to come, in the same order.
abbrev pub TargetsKeepTheirItems : Type 0
TargetsKeepTheirItems = (target : Target) (s : State) → filter (goes_to target) (items_grouped s).pending.items ≡ filter (goes_to target) s.pending.items
