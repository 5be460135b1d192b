-- Queued lists, items that mean nothing, and what the others mean.
use Rattle.std.specs.Prelude.{◌≡◌, ℕ, ◌≤◌, ◌<◌, ◌*◌, Bool, true, false, ◌&&◌, ◌||◌, nat_lt, not, List, [], ◌∷◌, All, IfSome, IsSome, Option, Some, None, is_none, if◌then◌else◌}
use Rattle.std.specs.List.{list_all}
use Rattle.std.specs.Option.{option_map, option_map_or}
use Rattle.std.specs.FinMap.{find}
use Rattle.std.proofs.Common.{refl, sym, ap, subst, ◌∙◌, arith}
use Rattle.std.proofs.lemmas.Bool.{and_parts, and_from, ltb-true, lt-ltb, true≢false}
use Rattle.std.proofs.lemmas.Option.{same_Some, none-some}
use Rattle.std.proofs.lemmas.List.Elements.{All-head, All-tail}
use Rattle.babel_value.specs.declared.addresses.Addr.{Addr}
use Rattle.babel_value.specs.declared.addresses.Addr.TheVariants.{V4, V6}
use Rattle.babel_value.specs.declared.keys.Peer.{Peer}
use Rattle.babel_value.specs.Addresses.{family_of}
use Rattle.babel_value.specs.Orders.{peer_cmp}
use Rattle.babel_value.specs.Prefixes.{PrefixValue}
use Rattle.babel_link.specs.declared.links.Link.{Link}
use Rattle.babel_link.specs.Links.{is_up_history, link_rxcost}
use Rattle.babel_link.specs.Neighbours.{rxcost_of}
use Rattle.babel_message.specs.declared.messages.Message.TheVariants as messages
use Rattle.babel_packet.specs.Encodable.{are_kin}
use Rattle.babel_choice.specs.declared.entries.Selection.{Selection}
use Rattle.babel_choice.specs.Routes.{key_of}
use Rattle.babel_choice.specs.Choices.{is_candidate, is_feasible_route, route_metric}
use Rattle.babel_state.specs.declared.interfaces.InterfaceEntry.{InterfaceEntry}
use Rattle.babel_state.specs.declared.items.Item.{Item}
use Rattle.babel_state.specs.declared.items.Item.TheVariants as items
use Rattle.babel_state.specs.declared.items.Outgoing.{Outgoing}
use Rattle.babel_state.specs.declared.items.Outgoing.TheVariants as outgoings
use Rattle.babel_state.specs.declared.items.Target.{Target}
use Rattle.babel_state.specs.Queueing.{Pending, queued, queued_at_once}
use Rattle.babel_state.specs.State.{State, announces, interface_at, is_neighbour, nominal_cost, cost_at, rxcost_at, selected_at}
use Rattle.babel_state.specs.Addresses.{address_of}
use Rattle.babel_state.specs.OutgoingMessages.{Advertisement, own_advertisement, route_advertisement, is_source_too_many, outgoing_ihu, outgoing_finite, outgoing_advertisement, outgoing_update, outgoing_over, outgoing}
use Rattle.babel_state.specs.NextDatagram.{Fits, Draft, with_message, goes_to, draft_with, left_out_more, without_first, drafted, next_datagram}
use Rattle.babel_state.specs.Invariants.{IsWellFormed}
use Rattle.babel_state.specs.QueueLaws.{QueueingAppends, NothingIsSkipped, has_no_message, FitsAlone, NoneIfNothingPending, IsEncodable, ItemsAreEncodable}
use Rattle.babel_state.proofs.SendingLaws.{if_some, along}
use Rattle.babel_state.proofs.TickTables.{usable_at}

pub queueing_appends : QueueingAppends
unfolding queued
queueing_appends [] ys old = refl
queueing_appends (x ∷ xs) ys old = queueing_appends xs ys (queued_at_once (x ∷ []) old)

-- ---- items that mean nothing

pub nothing_skipped : NothingIsSkipped
unfolding draft_with
nothing_skipped now fits x xs b nothing =
    ap (λ out. option_map_or (λ c. drafted now fits xs (without_first xs c)) (draft_with now fits b out) b) nothing

target_stays : (now : ℕ) (fits : Fits) (b : Draft) (out : Outgoing) → IsSome b.target → IfSome (draft_with now fits b out) (λ c. IsSome c.target)
unfolding draft_with
target_stays now fits b outgoings.Nothing p = p
target_stays now fits b outgoings.LeftOut p = p
target_stays now fits b (outgoings.Message target m) p =
    if_some (λ c. IsSome c.target) (goes_to b.target target && fits target b.messages m) (with_message now b target m) refl

none_of_some : (m : Option Target) → IsSome m → is_none m ≡ false
none_of_some None e = absurd (true≢false (sym e))
none_of_some (Some t) e = refl

target_there : (now : ℕ) (fits : Fits) (xs : List Item) (b : Draft) → IsSome b.target → is_none (drafted now fits xs b).target ≡ false
target_there now fits xs b p = none_of_some (drafted now fits xs b).target (along (λ c. IsSome c.target) now fits (target_stays now fits) (λ ys c q. q) xs b p)

-- what an item means is no matter of the queue and of the count of updates left out
rest_means : (s : State) (pending : Pending) (left_out : ℕ) (x : Item) → outgoing (record s { pending = pending; left_out = left_out }) x ≡ outgoing s x
unfolding outgoing
rest_means s pending left_out (items.Hello iface) = refl
rest_means s pending left_out (items.Ihu peer) = refl
rest_means s pending left_out (items.Update target prefix) = refl
rest_means s pending left_out (items.Request peer source seqno hops) = refl
rest_means s pending left_out (items.Ack peer opaque) = refl

abbrev empty : State → Pending → ℕ → Draft
empty s pending left_out = record { state = record s { pending = pending; left_out = left_out }; target = None; messages = [] }

none_if : (now : ℕ) (fits : Fits) (s : State) (xs : List Item) (pending : Pending) (left_out : ℕ) → All (FitsAlone fits s) xs →
    is_none (drafted now fits xs (empty s pending left_out)).target ≡ list_all (λ x. has_no_message (outgoing s x)) xs
unfolding draft_with
none_if now fits s [] pending left_out alone = refl
none_if now fits s (x ∷ xs) pending left_out alone =
    ap (λ out. is_none (option_map_or (λ c. drafted now fits xs (without_first xs c)) (draft_with now fits (empty s pending left_out) out) (empty s pending left_out)).target) (rest_means s pending left_out x)
    ∙ by (outgoing s x) refl (λ p n. none_if now fits s xs p n (All-tail (FitsAlone fits s) x xs alone))
  where
    by : (out : Outgoing) → outgoing s x ≡ out →
        ((p : Pending) (n : ℕ) → is_none (drafted now fits xs (empty s p n)).target ≡ list_all (λ x. has_no_message (outgoing s x)) xs) →
        is_none (option_map_or (λ c. drafted now fits xs (without_first xs c)) (draft_with now fits (empty s pending left_out) out) (empty s pending left_out)).target
        ≡ (has_no_message out && list_all (λ x. has_no_message (outgoing s x)) xs)
    by outgoings.Nothing is rest = rest (record pending { items = xs }) left_out
    by outgoings.LeftOut is rest = rest (record pending { items = xs }) (left_out_more (empty s pending left_out).state).left_out
    by (outgoings.Message target m) is rest =
        ap (λ b. is_none (option_map_or (λ c. drafted now fits xs (without_first xs c)) (if b then Some (with_message now (empty s pending left_out) target m) else None) (empty s pending left_out)).target)
        (All-head (FitsAlone fits s) x xs alone target m is)
        ∙ target_there now fits xs (without_first xs (with_message now (empty s pending left_out) target m)) refl

pub none_if_nothing : NoneIfNothingPending
unfolding next_datagram
none_if_nothing now fits s alone = none_if now fits s s.pending.items s.pending s.left_out alone

-- ---- messages that can be encoded

rxcost_positive : (peer : Peer) (s : State) → 1 ≤ nominal_cost peer.iface s → 1 ≤ rxcost_at s peer
unfolding rxcost_of link_rxcost
rxcost_positive peer s positive = by (find peer_cmp peer s.neighbours)
  where
    up : (b : Bool) → 1 ≤ (if b then nominal_cost peer.iface s else 65535)
    up true = positive
    up false = omega arith

    by : (m : Option Link) → 1 ≤ option_map_or (link_rxcost (nominal_cost peer.iface s)) m 65535
    by None = omega arith
    by (Some link) = up (is_up_history link.multicast || is_up_history link.unicast)

kin : (addr : Addr) (i : InterfaceEntry) (hop : Addr) → address_of (family_of addr) i ≡ Some hop → are_kin hop addr ≡ true
kin (V4 octets) i hop at = by i.ipv4 at
  where
    by : (m : Option (List ℕ × ℕ)) → option_map (λ net. V4 net.0) m ≡ Some hop → are_kin hop (V4 octets) ≡ true
    by None at = absurd (none-some hop at)
    by (Some net) at = subst (λ h. are_kin h (V4 octets) ≡ true) (same_Some (V4 net.0) hop at) refl
kin (V6 octets) i hop at = by i.ipv6 at
  where
    by : (m : Option (List ℕ)) → option_map V6 m ≡ Some hop → are_kin hop (V6 octets) ≡ true
    by None at = absurd (none-some hop at)
    by (Some own) at = subst (λ h. are_kin h (V6 octets) ≡ true) (same_Some (V6 own) hop at) refl

over_encodable : (s : State) (iface : ℕ) (f : InterfaceEntry → Outgoing) → ((i : InterfaceEntry) → interface_at iface s ≡ Some i → IsEncodable (f i)) → IsEncodable (outgoing_over f (interface_at iface s))
over_encodable s iface f each = by (interface_at iface s) refl
  where
    by : (m : Option InterfaceEntry) → interface_at iface s ≡ m → IsEncodable (outgoing_over f m)
    by None at = tt
    by (Some i) at = each i at

finite_encodable : (s : State) (target : Target) (prefix : PrefixValue) (t : Advertisement) (i : InterfaceEntry) (hop : Option Addr) → 1 ≤ i.hello → t.distance.metric < 65535 →
    address_of (family_of prefix.addr) i ≡ hop → IsEncodable (outgoing_finite target prefix t i s hop)
finite_encodable s target prefix t i None hello finite own = tt
finite_encodable s target prefix t i (Some hop) hello finite own = by (is_source_too_many (record { prefix = prefix; router = t.router }) s.sources)
  where
    four : 0 < 4 * i.hello
    four = omega (arith, hello)

    by : (b : Bool) → IsEncodable (if b then outgoings.LeftOut else outgoings.Message target (messages.Update prefix t.router hop t.distance.seqno t.distance.metric (4 * i.hello)))
    by true = tt
    by false =
        and_from (nat_lt t.distance.metric 65535) _ (lt-ltb t.distance.metric 65535 finite)
        (and_from (nat_lt 0 (4 * i.hello)) (are_kin hop prefix.addr) (lt-ltb 0 (4 * i.hello) four) (kin prefix.addr i hop own))

update_encodable : (s : State) (target : Target) (prefix : PrefixValue) (i : InterfaceEntry) → IsWellFormed s → 1 ≤ i.hello → IsEncodable (outgoing_update target prefix s i)
update_encodable s target prefix i well hello = by (announces prefix s) (selected_at prefix s) refl
  where
    by : (b : Bool) (m : Option Selection) → selected_at prefix s ≡ m →
        IsEncodable (outgoing_advertisement target prefix s i (if b then Some (own_advertisement s) else option_map_or (λ route. Some (route_advertisement prefix s route)) m None))
    by true m at = finite_encodable s target prefix (own_advertisement s) i (address_of (family_of prefix.addr) i) hello (omega arith) refl
    by false None at = refl
    by false (Some route) at =
        let local = and_parts (not (announces prefix s)) (is_candidate s.sources (cost_at s) (key_of prefix route.peer, route.entry)) (well.selections prefix route at).1 in
        let parts = and_parts (is_feasible_route s.sources (key_of prefix route.peer, route.entry)) (nat_lt (route_metric (cost_at s) (key_of prefix route.peer, route.entry)) 65535) local.1 in
        finite_encodable s target prefix (route_advertisement prefix s route) i (address_of (family_of prefix.addr) i) hello
        (ltb-true (route_metric (cost_at s) (key_of prefix route.peer, route.entry)) 65535 parts.1) refl

pub item_encodable : ItemsAreEncodable
unfolding outgoing
item_encodable s (items.Hello iface) well hops = over_encodable s iface _ (λ i at. refl)
item_encodable s (items.Ihu peer) well hops = by (is_neighbour peer s)
  where
    ihu : (i : InterfaceEntry) → interface_at peer.iface s ≡ Some i → IsEncodable (outgoing_ihu peer s i)
    ihu i at =
        let u = usable_at peer.iface s i at well.tables in
        let positive : 1 ≤ nominal_cost peer.iface s = subst (λ m. 1 ≤ option_map_or (λ i. i.cost) m 65535) (sym at) u.cost.0 in
        let rx : 1 ≤ rxcost_at s peer = rxcost_positive peer s positive in
        and_from (nat_lt 0 (rxcost_at s peer)) (nat_lt 0 (3 * i.hello)) (lt-ltb 0 (rxcost_at s peer) (omega (arith, rx))) (lt-ltb 0 (3 * i.hello) (omega (arith, u.hello.0)))

    by : (b : Bool) → IsEncodable (if b then outgoing_over (outgoing_ihu peer s) (interface_at peer.iface s) else outgoings.Nothing)
    by true = over_encodable s peer.iface (outgoing_ihu peer s) ihu
    by false = tt
item_encodable s (items.Update target prefix) well hops =
    over_encodable s target.iface (outgoing_update target prefix s) (λ i at. update_encodable s target prefix i well (usable_at target.iface s i at well.tables).hello.0)
item_encodable s (items.Request peer source seqno hops) well some = over_encodable s peer.iface _ (λ i at. lt-ltb 0 hops (omega (arith, some)))
item_encodable s (items.Ack peer opaque) well hops = over_encodable s peer.iface _ (λ i at. refl)
