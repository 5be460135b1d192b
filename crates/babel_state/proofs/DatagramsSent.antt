-- What a network sees of a datagram.
use Rattle.std.specs.Prelude.{◌≡◌, ◌⊎◌, ℕ, Bool, true, false, ◌&&◌, nat_eq, List, [], ◌∷◌, ◌++◌, All, IfSome, slice_get, Option, Some, None, is_some, if◌then◌else◌}
use Rattle.std.specs.Option.{option_map, option_map_or, option_and_then}
use Rattle.std.specs.List.{filter}
use Rattle.std.specs.FinMap.{find}
use Rattle.std.proofs.Common.{refl, sym, ap, subst, ◌∙◌, inl, inr}
use Rattle.std.proofs.lemmas.Bool.{and_parts, eqb-true}
use Rattle.std.proofs.lemmas.Option.{none-some, slice_get-map}
use Rattle.std.proofs.lemmas.List.Elements.{All-nil, All-cons, All-append}
use Rattle.babel_value.specs.declared.addresses.Addr.{Addr}
use Rattle.babel_value.specs.declared.distances.Distance.{Distance}
use Rattle.babel_value.specs.declared.keys.Peer.{Peer}
use Rattle.babel_value.specs.Orders.{prefix_cmp}
use Rattle.babel_value.specs.Prefixes.{PrefixValue}
use Rattle.babel_link.specs.Neighbours.{cost_of}
use Rattle.babel_message.specs.declared.messages.Message.{Message}
use Rattle.babel_message.specs.declared.messages.Message.TheVariants as messages
use Rattle.babel_choice.specs.RouteKeys.{route_cmp}
use Rattle.babel_choice.specs.Routes.{key_of}
use Rattle.babel_choice.specs.Choices.{route_metric}
use Rattle.babel_route.specs.Selections.{selection_at}
use Rattle.babel_state.specs.declared.interfaces.InterfaceEntry.{InterfaceEntry}
use Rattle.babel_state.specs.declared.items.Item.{Item}
use Rattle.babel_state.specs.declared.items.Outgoing.{Outgoing}
use Rattle.babel_state.specs.declared.items.Outgoing.TheVariants as outgoings
use Rattle.babel_state.specs.declared.items.Target.{Target}
use Rattle.babel_state.specs.declared.selected.Selected.{Selected}
use Rattle.babel_state.specs.State.{State, announces, interface_at, nominal_cost, cost_at, selected_at, pair_at}
use Rattle.babel_state.specs.OutgoingMessages.{outgoing}
use Rattle.babel_state.specs.NextDatagram.{Fits, Draft, is_same_receiver, goes_to, with_message, draft_with, without_first, next_datagram}
use Rattle.babel_state.specs.Calls.{reported_selected, selected_route}
use Rattle.babel_state.specs.Seen.{UpdateValue, update_of, updates_among, is_of_source, all_lowered, IsSelecting, heard_if_finite, heard_at, seen, Advertises, NamesOwnAddress, Sends}
use Rattle.babel_state.specs.StepLaws.{settings_of, settings_in, KnownValue, known_of}
use Rattle.babel_state.specs.Invariants.{SendingKeepsSelected}
use Rattle.babel_state.specs.SeenLaws.{DatagramsSend, NoDatagramChangesNothing}
use Rattle.babel_state.proofs.SendingLaws.{if_some, along, one_known, rest_known, sending_known, sending_lowers, updates_last}
use Rattle.babel_state.proofs.SendingTables.{IsOwn, IsOfRoute, IsUpdate, IsMeant, IsMeaning, item_meant, item_by_item, sending_well}
use Rattle.babel_state.proofs.SeeingLaws.{well_selecting}
use Rattle.babel_state.proofs.Moving.{transport_kept, address_kept}

-- ---- what is known is seen

nominal_settled : (m : Option InterfaceEntry) → option_map_or (λ i. i.cost) (option_map settings_of m) 65535 ≡ option_map_or (λ i. i.cost) m 65535
nominal_settled None = refl
nominal_settled (Some i) = refl

nominal_is : (s : State) (iface : ℕ) → option_map_or (λ i. i.cost) (slice_get (settings_in s) iface) 65535 ≡ nominal_cost iface s
nominal_is s iface = ap (λ m. option_map_or (λ i. i.cost) m 65535) (slice_get-map settings_of s.interfaces iface) ∙ nominal_settled (interface_at iface s)

abbrev cost_by : KnownValue → Peer → ℕ
cost_by k peer = cost_of peer (option_map_or (λ i. i.cost) (slice_get k.interfaces peer.iface) 65535) k.neighbours

cost_known : (s : State) (peer : Peer) → cost_by (known_of s) peer ≡ cost_at s peer
unfolding known_of
cost_known s peer = ap (λ n. cost_of peer n s.neighbours) (nominal_is s peer.iface)

pub costs_kept : (s t : State) → known_of t ≡ known_of s → cost_at t ≡ cost_at s
costs_kept s t same = λ i peer. (sym (cost_known t peer) ∙ ap (λ k. cost_by k peer) same ∙ cost_known s peer) i

abbrev selected_by : PrefixValue → KnownValue → (Peer → ℕ) → Option Selected
selected_by prefix k cost =
    option_map (λ route. record {
      peer = route.peer;
      next_hop = route.entry.next_hop;
      router = route.entry.router;
      distance = route.entry.distance;
      metric = route_metric cost (key_of prefix route.peer, route.entry);
    }) (selection_at prefix k.routes)

pub selected_kept : (s t : State) → known_of t ≡ known_of s → (prefix : PrefixValue) → selected_route prefix t ≡ selected_route prefix s
unfolding known_of selected_route
selected_kept s t same prefix = λ i. selected_by prefix (same i) (costs_kept s t same i)

heard_kept : (s t : State) → known_of t ≡ known_of s → (prefix : PrefixValue) (from : Peer) → heard_at prefix from t ≡ heard_at prefix from s
unfolding known_of
heard_kept s t same prefix from = ap (λ (k : KnownValue). option_and_then heard_if_finite (find route_cmp (key_of prefix from) k.routes.entries)) same

pub announces_kept : (s t : State) → known_of t ≡ known_of s → (prefix : PrefixValue) → announces prefix t ≡ announces prefix s
unfolding known_of
announces_kept s t same prefix = ap (λ (k : KnownValue). is_some (find prefix_cmp prefix k.announced)) same

pub settings_kept : (s t : State) → known_of t ≡ known_of s → settings_in t ≡ settings_in s
unfolding known_of
settings_kept s t same = ap (λ (k : KnownValue). k.interfaces) same

router_kept : (s t : State) → known_of t ≡ known_of s → t.router ≡ s.router
unfolding known_of
router_kept s t same = ap (λ (k : KnownValue). k.router) same

collects_kept : (s t : State) → known_of t ≡ known_of s → t.collects ≡ s.collects
unfolding known_of
collects_kept s t same = ap (λ (k : KnownValue). k.collects) same

seqno_kept : (s t : State) → known_of t ≡ known_of s → t.seqno ≡ s.seqno
unfolding known_of
seqno_kept s t same = ap (λ (k : KnownValue). k.seqno) same

raises_kept : (s t : State) → known_of t ≡ known_of s → t.raises ≡ s.raises
unfolding known_of
raises_kept s t same = ap (λ (k : KnownValue). k.raises) same

pub selection_kept : (s t : State) → known_of t ≡ known_of s → (prefix : PrefixValue) → selected_at prefix t ≡ selected_at prefix s
unfolding known_of
selection_kept s t same prefix = ap (λ (k : KnownValue). selection_at prefix k.routes) same

-- ---- what a message advertises

abbrev update_value : PrefixValue → List ℕ → Addr → Distance → UpdateValue
update_value prefix router hop distance = record { prefix = prefix; router = router; distance = distance; next_hop = hop }

advertises : (s t : State) → known_of t ≡ known_of s → (prefix : PrefixValue) (router : List ℕ) (hop : Addr) (distance : Distance) → IsOwn t prefix router distance ⊎ IsOfRoute t prefix router distance →
    Advertises (seen s) (update_value prefix router hop distance)
unfolding seen selected_route
advertises s t same prefix router hop distance (inl own) =
    inl (sym (announces_kept s t same prefix) ∙ own.0, own.1 ∙ router_kept s t same, own.2 ∙ (λ i. record { seqno = seqno_kept s t same i; metric = 0 }))
advertises s t same prefix router hop distance (inr r) =
    let at : selected_at prefix s ≡ Some r.0 = sym (selection_kept s t same prefix) ∙ r.1 in
    inr (
      reported_selected prefix s r.0,
      ap (option_map (reported_selected prefix s)) at,
      r.2,
      r.3 ∙ (λ i. record { seqno = r.0.entry.distance.seqno; metric = route_metric (costs_kept s t same i) (key_of prefix r.0.peer, r.0.entry) }),
    )

abbrev pub AreAdvertised : State → ℕ → List UpdateValue → Type 0
AreAdvertised s iface us = All (Advertises (seen s)) us × All (NamesOwnAddress (seen s) iface) us

names : (s t : State) → known_of t ≡ known_of s → (iface : ℕ) (prefix : PrefixValue) (router : List ℕ) (hop : Addr) (distance : Distance) → IsUpdate t iface prefix router hop distance →
    NamesOwnAddress (seen s) iface (update_value prefix router hop distance)
unfolding seen
names s t same iface prefix router hop distance update = sym (address_kept s t (settings_kept s t same) iface _) ∙ update.own_hop

none_advertised : (s : State) (iface : ℕ) → AreAdvertised s iface []
none_advertised s iface = (All-nil (Advertises (seen s)), All-nil (NamesOwnAddress (seen s) iface))

message_advertised : (s t : State) → known_of t ≡ known_of s → (iface : ℕ) (m : Message) → IsMeant t iface m → AreAdvertised s iface (update_of m)
message_advertised s t same iface (messages.AckRequest opaque interval) meant = none_advertised s iface
message_advertised s t same iface (messages.Ack opaque) meant = none_advertised s iface
message_advertised s t same iface (messages.Hello unicast seqno interval) meant = none_advertised s iface
message_advertised s t same iface (messages.Ihu to rxcost interval) meant = none_advertised s iface
message_advertised s t same iface (messages.Update prefix router hop seqno metric interval) meant =
    let sent : Distance = record { seqno = seqno; metric = metric } in (
      All-cons (Advertises (seen s)) (update_value prefix router hop sent) [] (advertises s t same prefix router hop sent meant.advertised) (All-nil (Advertises (seen s))),
      All-cons (NamesOwnAddress (seen s) iface) (update_value prefix router hop sent) [] (names s t same iface prefix router hop sent meant) (All-nil (NamesOwnAddress (seen s) iface)),
    )
message_advertised s t same iface (messages.Retraction prefix interval) meant = none_advertised s iface
message_advertised s t same iface (messages.RetractAll interval) meant = none_advertised s iface
message_advertised s t same iface (messages.RouteRequest prefix) meant = none_advertised s iface
message_advertised s t same iface messages.DumpRequest meant = none_advertised s iface
message_advertised s t same iface (messages.SeqnoRequest prefix router seqno hops) meant = none_advertised s iface

-- ---- the datagram so far

abbrev pub AreSent : State → Option Target → List Message → Type 0
AreSent s None ms = ms ≡ []
AreSent s (Some target) ms = AreAdvertised s target.iface (updates_among ms)

abbrev pub IsDraftOf : State → Draft → Type 0
IsDraftOf s b = (known_of b.state ≡ known_of s) × AreSent s b.target b.messages

joined : (s : State) (iface : ℕ) (ms : List Message) (m : Message) → AreAdvertised s iface (updates_among ms) → AreAdvertised s iface (update_of m) → AreAdvertised s iface (updates_among (ms ++ m ∷ []))
joined s iface ms m p q =
    subst (AreAdvertised s iface) (sym (updates_last ms m))
    (All-append (Advertises (seen s)) (updates_among ms) (update_of m) p.0 q.0, All-append (NamesOwnAddress (seen s) iface) (updates_among ms) (update_of m) p.1 q.1)

sent_before : (s : State) (target : Target) (known : Option Target) (ms : List Message) → goes_to known target ≡ true → AreSent s known ms → AreAdvertised s target.iface (updates_among ms)
sent_before s target None ms goes sent = subst (λ ms. AreAdvertised s target.iface (updates_among ms)) (sym sent) (none_advertised s target.iface)
sent_before s target (Some t) ms goes sent =
    subst (λ iface. AreAdvertised s iface (updates_among ms)) (eqb-true t.iface target.iface (and_parts (nat_eq t.iface target.iface) (is_same_receiver t.to target.to) goes).0) sent

message_sent : (s : State) (now : ℕ) (fits : Fits) (b : Draft) (target : Target) (m : Message) → IsMeant b.state target.iface m → IsDraftOf s b →
    (c : Bool) → (goes_to b.target target && fits target b.messages m) ≡ c → IfSome (if c then Some (with_message now b target m) else None) (λ d. AreSent s d.target d.messages)
message_sent s now fits b target m meant p true is =
    joined s target.iface b.messages m (sent_before s target b.target b.messages (and_parts (goes_to b.target target) (fits target b.messages m) is).0 p.1)
    (message_advertised s b.state p.0 target.iface m meant)
message_sent s now fits b target m meant p false is = tt

one_sent : (s : State) (now : ℕ) (fits : Fits) (b : Draft) (out : Outgoing) → IsMeaning b.state out → IsDraftOf s b → IfSome (draft_with now fits b out) (λ d. AreSent s d.target d.messages)
unfolding draft_with
one_sent s now fits b outgoings.Nothing meant p = p.1
one_sent s now fits b outgoings.LeftOut meant p = p.1
one_sent s now fits b (outgoings.Message target m) meant p = message_sent s now fits b target m meant p (goes_to b.target target && fits target b.messages m) refl

both : (s : State) (xs : List Item) (m : Option Draft) → IfSome m (λ c. known_of c.state ≡ known_of s) → IfSome m (λ d. AreSent s d.target d.messages) → IfSome m (λ c. IsDraftOf s (without_first xs c))
both s xs None p q = tt
both s xs (Some c) p q = (rest_known s xs c p, q)

pub draft_of : (s : State) (now : ℕ) (fits : Fits) → IsDraftOf s (next_datagram now fits s)
unfolding next_datagram
draft_of s now fits =
    item_by_item (λ b xs. IsDraftOf s b) now fits
    (λ x xs b p. both s xs (draft_with now fits b (outgoing b.state x)) (one_known s now fits b (outgoing b.state x) p.0) (one_sent s now fits b (outgoing b.state x) (item_meant b.state x) p))
    (λ xs b p. p) s.pending.items (record { state = s; target = None; messages = [] }) (refl, refl)

sends_from : (iface : ℕ) (us : List UpdateValue) (s new : State) → AreAdvertised s iface us → known_of new ≡ known_of s →
    ((prefix : PrefixValue) (router : List ℕ) → pair_at prefix router new ≡ all_lowered (filter (is_of_source prefix router) us) (pair_at prefix router s)) → IsSelecting (seen new) →
    Sends iface us (seen s) (seen new)
unfolding seen
sends_from iface us s new sent known sources selecting = record {
  advertised = sent.0;
  next_hops = sent.1;
  router = router_kept s new known;
  collects = collects_kept s new known;
  transports = transport_kept s new (settings_kept s new known);
  addresses = address_kept s new (settings_kept s new known);
  seqno = seqno_kept s new known;
  raises = raises_kept s new known;
  announces = announces_kept s new known;
  sources = sources;
  entries = heard_kept s new known;
  selected = selected_kept s new known;
  selecting = selecting;
}

pub datagrams_send : DatagramsSend
datagrams_send now fits s target well at =
    let new : State = (next_datagram now fits s).state in
    let draft = draft_of s now fits in
    let sent : AreAdvertised s target.iface (updates_among (next_datagram now fits s).messages) = subst (λ m. AreSent s m (next_datagram now fits s).messages) at draft.1 in
    sends_from target.iface (updates_among (next_datagram now fits s).messages) s new sent draft.0 (sending_lowers now fits s) (well_selecting new (sending_well now fits s well))

pub selected_stay : SendingKeepsSelected
selected_stay now fits s well =
    (selection_kept s (next_datagram now fits s).state (sending_known now fits s), (sending_well now fits s well).selections)

-- ---- no datagram

nothing_seen : (s : State) (b : Draft) (out : Outgoing) (now : ℕ) (fits : Fits) → (b.target ≡ None → seen b.state ≡ seen s) → IfSome (draft_with now fits b out) (λ c. c.target ≡ None → seen c.state ≡ seen s)
unfolding draft_with seen selected_route
nothing_seen s b outgoings.Nothing now fits p = p
nothing_seen s b outgoings.LeftOut now fits p = p
nothing_seen s b (outgoings.Message target m) now fits p =
    if_some (λ c. c.target ≡ None → seen c.state ≡ seen s) (goes_to b.target target && fits target b.messages m) (with_message now b target m) (λ none. absurd (none-some target (sym none)))

rest_seen : (s : State) (xs : List Item) (b : Draft) → (b.target ≡ None → seen b.state ≡ seen s) → (without_first xs b).target ≡ None → seen (without_first xs b).state ≡ seen s
unfolding seen selected_route
rest_seen s xs b p none = p none

pub none_changes_nothing : NoDatagramChangesNothing
unfolding next_datagram
none_changes_nothing now fits s =
    along (λ b. b.target ≡ None → seen b.state ≡ seen s) now fits (λ b out p. nothing_seen s b out now fits p) (rest_seen s) s.pending.items
    (record { state = s; target = None; messages = [] }) (λ none. refl)
