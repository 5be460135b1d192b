-- What sending a datagram keeps.
use Rattle.std.proofs.Common.{◌≡◌, ◌≢◌, ◌⊎◌, ◌<◌, ℕ, true, false, List, [], ◌∷◌, ◌++◌, Some, Contains, slice_get, sym, ap, ◌∙◌, subst, inl, inr, arith}
use Rattle.std.proofs.lemmas.Bool.{cases_eq}
use Rattle.std.proofs.lemmas.Grind.{flat_map-append}
use Rattle.std.proofs.lemmas.List.{append-nil, length-set}
use Rattle.std.proofs.lemmas.List.Elements.{Contains-append_left, Contains-append_cases, All-append, All-cons, All-nil, All-contains}
use Rattle.babel_value.specs.declared.addresses.Addr.{Addr}
use Rattle.babel_value.specs.declared.addresses.Family.{Family}
use Rattle.babel_value.specs.declared.distances.Distance.{Distance}
use Rattle.babel_value.specs.declared.keys.Peer.{Peer}
use Rattle.babel_value.specs.Addresses.{family_of}
use Rattle.babel_value.specs.Prefixes.{PrefixValue}
use Rattle.babel_state.specs.declared.configs.Config.{Config}
use Rattle.babel_state.specs.declared.selected.Selected.{Selected}
use Rattle.babel_state.specs.Seen.{UpdateValue, HeardValue, IsSelecting, NamesOthers, Advertises, IsOwnUpdate, IsRouteUpdate, NamesOwnAddress, heard_of}
use Rattle.babel_machine.specs.Owners.{owner_of, Lists}
use Rattle.babel_machine.specs.Worlds.{World, SentDatagram, speaker_at, with_speaker, with_datagram, updates_if, updates_of}
use Rattle.babel_machine.specs.Happenings.{Emits}
use Rattle.babel_machine.specs.Invariants.{WasSent, IsKnown, IsOrigin, HoldsWith, Holds, update_heard}
use Rattle.babel_machine.proofs.Speakers.{each_speaker}

abbrev pub datagram_of : (node : ℕ) (old new : World) → Emits node old new → SentDatagram
datagram_of node old new e = record { node = node; source = e.source; updates = e.updates }

abbrev pub emitted : (node : ℕ) (old new : World) → Emits node old new → World
emitted node old new e = with_datagram (with_speaker old node e.speaker) (datagram_of node old new e)

-- the updates that a node has sent after a datagram
updates-more : (b : ℕ) (sent : List SentDatagram) (d : SentDatagram) → updates_of b (sent ++ d ∷ []) ≡ updates_of b sent ++ updates_if b d
updates-more b sent d = flat_map-append (updates_if b) sent (d ∷ []) ∙ ap (λ us. updates_of b sent ++ us) (append-nil (updates_if b d))

pub updates-own : (b : ℕ) (sent : List SentDatagram) (d : SentDatagram) → d.node ≡ b → updates_of b (sent ++ d ∷ []) ≡ updates_of b sent ++ d.updates
updates-own b sent d is = updates-more b sent d ∙ ap (λ us. updates_of b sent ++ us) (grind (arith, is))

pub updates-other : (b : ℕ) (sent : List SentDatagram) (d : SentDatagram) → d.node ≢ b → updates_of b (sent ++ d ∷ []) ≡ updates_of b sent
updates-other b sent d not = updates-more b sent d ∙ ap (λ us. updates_of b sent ++ us) (grind (arith, not)) ∙ append-nil (updates_of b sent)

-- an update of a node after a datagram: an old one, or one of the datagram's
pub updates-cases : (b : ℕ) (sent : List SentDatagram) (d : SentDatagram) (u : UpdateValue) → Contains (updates_of b (sent ++ d ∷ [])) u → Contains (updates_of b sent) u ⊎ ((d.node ≡ b) × Contains d.updates u)
updates-cases b sent d u h = by (cases_eq d.node b)
  where
    own : d.node ≡ b → (Contains (updates_of b sent) u ⊎ Contains d.updates u) → Contains (updates_of b sent) u ⊎ ((d.node ≡ b) × Contains d.updates u)
    own is (inl was) = inl was
    own is (inr new) = inr (is, new)

    by : ((d.node ≡ b) ⊎ (d.node ≢ b)) → Contains (updates_of b sent) u ⊎ ((d.node ≡ b) × Contains d.updates u)
    by (inl is) = own is (Contains-append_cases (updates_of b sent) d.updates u (subst (λ us. Contains us u) (updates-own b sent d is) h))
    by (inr not) = inl (subst (λ us. Contains us u) (updates-other b sent d not) h)

pub updates-kept : (b : ℕ) (sent : List SentDatagram) (d : SentDatagram) (u : UpdateValue) → Contains (updates_of b sent) u → Contains (updates_of b (sent ++ d ∷ [])) u
updates-kept b sent d u h = subst (λ us. Contains us u) (sym (updates-more b sent d)) (Contains-append_left (updates_of b sent) (updates_if b d) u h)

-- ---- what is known of an update that is sent

-- a selected route is what was heard
pub route_heard : (is_heard : PrefixValue → Peer → HeardValue → Type 0) (is_known : ℕ → UpdateValue → Type 0) (configs : List Config) (node : ℕ) (old : World) → HoldsWith is_heard is_known configs old → (prefix : PrefixValue) (c : Selected) → (speaker_at old node).selected_at prefix ≡ Some c → is_heard prefix c.peer (heard_of c)
route_heard is_heard is_known configs node old holds prefix c is =
    holds.heard node prefix c.peer (heard_of c) ((holds.selecting node).entry prefix c is)

pub route_sent : (configs : List Config) (node : ℕ) (old : World) → Holds configs old → (prefix : PrefixValue) (c : Selected) → (speaker_at old node).selected_at prefix ≡ Some c → WasSent configs old.sent prefix c.peer (heard_of c)
route_sent configs node old holds prefix c is = route_heard (WasSent configs old.sent) (IsKnown configs) configs node old holds prefix c is

-- its next hop is the node's own address
pub own_hop : (is_heard : PrefixValue → Peer → HeardValue → Type 0) (is_known : ℕ → UpdateValue → Type 0) (configs : List Config) (node : ℕ) (old new : World) (e : Emits node old new) → HoldsWith is_heard is_known configs old → (u : UpdateValue) → Contains e.updates u → owner_of configs u.next_hop ≡ Some node
own_hop is_heard is_known configs node old new e holds u there =
    holds.addresses node e.iface (family_of u.prefix.addr) u.next_hop (All-contains (NamesOwnAddress (speaker_at old node) e.iface) e.updates u e.sends.next_hops there)

pub known_now : (configs : List Config) (node : ℕ) (old new : World) (e : Emits node old new) → Holds configs old → (u : UpdateValue) → Contains e.updates u → IsKnown configs node u
known_now configs node old new e holds u there =
    by (All-contains (Advertises (speaker_at old node)) e.updates u e.sends.advertised there)
  where
    hop : owner_of configs u.next_hop ≡ Some node
    hop = own_hop (WasSent configs old.sent) (IsKnown configs) configs node old new e holds u there

    own : IsOwnUpdate (speaker_at old node) u → IsKnown configs node u
    own is =
        let lists = holds.announces node u.prefix is.0 in
        record {
          next_hop = hop;
          seqno = subst (λ (d : Distance). d.seqno < 65536) (sym is.2) (holds.seqno node);
          origin = (node, lists.0, lists.1, is.1 ∙ holds.router node lists.0 lists.1, lists);
        }

    route : IsRouteUpdate (speaker_at old node) u → IsKnown configs node u
    route is =
        let was = route_sent configs node old holds u.prefix is.0 is.1 in
        let known = holds.updates was.node (update_heard u.prefix (heard_of is.0)) was.recorded in
        record {
          next_hop = hop;
          seqno = subst (λ (d : Distance). d.seqno < 65536) (sym is.3) known.seqno;
          origin = subst (IsOrigin configs u.prefix) (sym is.2) known.origin;
        }

    by : Advertises (speaker_at old node) u → IsKnown configs node u
    by (inl is) = own is
    by (inr is) = route is

-- ---- what holds after it

pub was_sent_kept : (configs : List Config) (sent : List SentDatagram) (d : SentDatagram) (prefix : PrefixValue) (peer : Peer) (h : HeardValue) → WasSent configs sent prefix peer h → WasSent configs (sent ++ d ∷ []) prefix peer h
was_sent_kept configs sent d prefix peer h was = record {
  node = was.node;
  neighbour = was.neighbour;
  next_hop = was.next_hop;
  recorded = updates-kept was.node sent d (update_heard prefix h) was.recorded;
}

pub Holds-emitted : (is_heard now_heard : PrefixValue → Peer → HeardValue → Type 0) (is_known : ℕ → UpdateValue → Type 0) (configs : List Config) (node : ℕ) (old new : World) (e : Emits node old new) → HoldsWith is_heard is_known configs old → ((prefix : PrefixValue) (peer : Peer) (h : HeardValue) → is_heard prefix peer h → now_heard prefix peer h) → ((u : UpdateValue) → Contains e.updates u → is_known node u) → HoldsWith now_heard is_known configs (emitted node old new e)
Holds-emitted is_heard now_heard is_known configs node old new e holds kept now_known = record {
  size = rw length-set holds.size;
  router = each_speaker (λ b x. (c : Config) → slice_get configs b ≡ Some c → x.router ≡ c.router_id) old node e.speaker e.inside (λ c is. e.sends.router ∙ holds.router node c is) (λ b _. holds.router b);
  collects = each_speaker (λ b x. x.collects ≡ false) old node e.speaker e.inside (e.sends.collects ∙ holds.collects node) (λ b _. holds.collects b);
  transports = each_speaker (λ b x. (iface : ℕ) (addr : Addr) → x.transport_at iface ≡ Some addr → owner_of configs addr ≡ Some b) old node e.speaker e.inside (λ iface addr is. holds.transports node iface addr (sym (e.sends.transports iface) ∙ is)) (λ b _. holds.transports b);
  addresses = each_speaker (λ b x. (iface : ℕ) (family : Family) (addr : Addr) → x.address_at iface family ≡ Some addr → owner_of configs addr ≡ Some b) old node e.speaker e.inside (λ iface family addr is. holds.addresses node iface family addr (sym (e.sends.addresses iface family) ∙ is)) (λ b _. holds.addresses b);
  seqno = each_speaker (λ b x. x.seqno < 65536) old node e.speaker e.inside (omega (arith, e.sends.seqno, holds.seqno node)) (λ b _. holds.seqno b);
  announces = each_speaker (λ b x. (prefix : PrefixValue) → x.announces prefix ≡ true → Lists configs b prefix) old node e.speaker e.inside (λ prefix is. holds.announces node prefix (sym (e.sends.announces prefix) ∙ is)) (λ b _. holds.announces b);
  heard = each_speaker (λ b x. (prefix : PrefixValue) (peer : Peer) (h : HeardValue) → x.heard_at prefix peer ≡ Some h → now_heard prefix peer h) old node e.speaker e.inside (λ prefix peer h is. kept prefix peer h (holds.heard node prefix peer h (sym (e.sends.entries prefix peer) ∙ is))) (λ b _ prefix peer h is. kept prefix peer h (holds.heard b prefix peer h is));
  selecting = each_speaker (λ b x. IsSelecting x) old node e.speaker e.inside e.sends.selecting (λ b _. holds.selecting b);
  others = each_speaker (λ b x. NamesOthers x) old node e.speaker e.inside (λ prefix from h is named. holds.others node prefix from h (sym (e.sends.entries prefix from) ∙ is) (named ∙ e.sends.router)) (λ b _. holds.others b);
  sources = All-append (λ (d : SentDatagram). owner_of configs d.source ≡ Some d.node) old.sent (datagram_of node old new e ∷ []) holds.sources (All-cons (λ (d : SentDatagram). owner_of configs d.source ≡ Some d.node) (datagram_of node old new e) [] (holds.transports node e.iface e.source e.is_own) (All-nil (λ (d : SentDatagram). owner_of configs d.source ≡ Some d.node)));
  updates = λ b u h. known b u (updates-cases b old.sent (datagram_of node old new e) u h);
}
  where
    known : (b : ℕ) (u : UpdateValue) → (Contains (updates_of b old.sent) u ⊎ ((node ≡ b) × Contains e.updates u)) → is_known b u
    known b u (inl was) = holds.updates b u was
    known b u (inr now) = subst (λ n. is_known n u) now.0 (now_known u now.1)
