-- A network at first.
use Rattle.std.proofs.Common.{◌≡◌, ◌<◌, ◌≤◌, ℕ, true, false, List, [], ◌∷◌, Option, Some, None, length, replicate, Contains, All, slice_get, get_or, refl, sym, ap, ◌∙◌, subst, inl, inr, arith}
use Rattle.std.specs.Option.{option_and_then}
use Rattle.std.proofs.lemmas.Bool.{cases_lt, false≢true}
use Rattle.std.proofs.lemmas.Option.{none-some, slice_get_within, slice_get-get_or, get_or_from_slice_get}
use Rattle.std.proofs.lemmas.List.{get_or-replicate, length-replicate}
use Rattle.std.proofs.lemmas.List.Elements.{All-nil, All-contains}
use Rattle.std.proofs.lemmas.List.FromFn.{fill_by_all}
use Rattle.babel_value.specs.declared.addresses.Addr.{Addr}
use Rattle.babel_value.specs.declared.addresses.Family.{Family}
use Rattle.babel_value.specs.declared.addresses.Family.TheVariants.{Ipv4, Ipv6}
use Rattle.babel_value.specs.declared.keys.Peer.{Peer}
use Rattle.babel_value.specs.Prefixes.{PrefixValue}
use Rattle.babel_state.specs.declared.configs.Config.{Config}
use Rattle.babel_state.specs.declared.configs.Interface.{Interface}
use Rattle.babel_state.specs.Addresses.{address_of, transport_of}
use Rattle.babel_state.specs.Calls.{new_interface}
use Rattle.babel_state.specs.Seen.{Seen, HeardValue, IsSelecting, NamesOthers, IsNew}
use Rattle.babel_state.specs.declared.selected.Selected.{Selected}
use Rattle.babel_machine.specs.declared.machine.pick.Pick.{Pick}
use Rattle.babel_machine.specs.Machine.{quiet, first_state}
use Rattle.babel_machine.specs.Sound.{IsSound}
use Rattle.babel_machine.specs.Owners.{owner_of, addresses_of, interface_addresses, listed, Lists, AreApart}
use Rattle.babel_machine.specs.Worlds.{World, SentDatagram, speaker_at, nothing, updates_of, IsFirst}
use Rattle.babel_machine.specs.Views.{NetSource, IsSource, sent_by, pick_of, view}
use Rattle.babel_machine.specs.Invariants.{WasSent, Holds, HoldsFor, Bounds, IsInvariant}
use Rattle.babel_machine.proofs.Membership.{Contains-nil, Contains-here, Contains-flat_map}
use Rattle.std.proofs.lemmas.List.Elements.{Contains-append_left, Contains-append_right}
use Rattle.babel_machine.proofs.MachineSound.{IsSound-first_state}
use Rattle.babel_machine.proofs.Speakers.{speaker_past, picture_node, picture}
use Rattle.babel_machine.proofs.MovedRuns.{start_word}
use Rattle.babel_machine.proofs.EmittedRuns.{node_same}

pub past : (configs : List Config) (b : ℕ) → slice_get configs b ≡ None → length configs ≤ b
past [] b is = omega arith
past (c ∷ cs) b is = elim (cases_lt b (length (c ∷ cs))) [ inl inside ↦ absurd (none-some _ (sym is ∙ slice_get-get_or (c ∷ cs) b c inside)) | inr out ↦ out ]

-- what holds of each new speaker, and of a number that is no node's, holds of each number
pub each_new : (P : ℕ → Seen → Type 0) (configs : List Config) (w : World) → IsFirst configs w → ((b : ℕ) (c : Config) → slice_get configs b ≡ Some c → IsNew c (speaker_at w b) → P b (speaker_at w b)) → ((b : ℕ) → P b nothing) → (b : ℕ) → P b (speaker_at w b)
each_new P configs w first new none b = by (slice_get configs b) refl
  where
    by : (o : Option Config) → slice_get configs b ≡ o → P b (speaker_at w b)
    by (Some c) is = new b c is (first.new b c is)
    by None is = subst (P b) (sym (speaker_past w b (omega (arith, first.size, past configs b is)))) (none b)

-- ---- addresses

-- an own address of an interface is one of its node's
address_listed : (family : Family) (i : Interface) (addr : Addr) → address_of family (new_interface i) ≡ Some addr → Contains (interface_addresses i) addr
address_listed Ipv4 i addr is =
    Contains-append_left (listed (address_of Ipv4 (new_interface i))) (listed (address_of Ipv6 (new_interface i))) addr (subst (λ o. Contains (listed o) addr) (sym is) (Contains-here addr []))
address_listed Ipv6 i addr is =
    Contains-append_right (listed (address_of Ipv4 (new_interface i))) (listed (address_of Ipv6 (new_interface i))) addr (subst (λ o. Contains (listed o) addr) (sym is) (Contains-here addr []))

pub contains_slice_get : {X : Type 0} → (xs : List X) (i : ℕ) (x : X) → slice_get xs i ≡ Some x → Contains xs x
contains_slice_get xs i x is = (i, slice_get_within xs i x is, get_or_from_slice_get xs i x x is)

pub owned : (configs : List Config) (b : ℕ) (c : Config) (family : Family) (iface : ℕ) (addr : Addr) → AreApart configs → slice_get configs b ≡ Some c → option_and_then (λ i. address_of family (new_interface i)) (slice_get c.interfaces.items iface) ≡ Some addr → owner_of configs addr ≡ Some b
owned configs b c family iface addr apart is of_iface = by (slice_get c.interfaces.items iface) refl of_iface
  where
    by : (o : Option Interface) → slice_get c.interfaces.items iface ≡ o → option_and_then (λ i. address_of family (new_interface i)) o ≡ Some addr → owner_of configs addr ≡ Some b
    by None _ h = absurd (none-some addr h)
    by (Some i) at h =
        All-contains (λ a. owner_of configs a ≡ Some b) (addresses_of c) addr (apart.addresses b c is) (Contains-flat_map interface_addresses c.interfaces.items i addr (contains_slice_get c.interfaces.items iface i at) (address_listed family i addr h))

pub owned_transport : (configs : List Config) (b : ℕ) (c : Config) (iface : ℕ) (addr : Addr) → AreApart configs → slice_get configs b ≡ Some c → option_and_then (λ i. transport_of (new_interface i)) (slice_get c.interfaces.items iface) ≡ Some addr → owner_of configs addr ≡ Some b
owned_transport configs b c iface addr apart is of_iface = by (slice_get c.interfaces.items iface) refl of_iface
  where
    by : (o : Option Interface) → slice_get c.interfaces.items iface ≡ o → option_and_then (λ i. transport_of (new_interface i)) o ≡ Some addr → owner_of configs addr ≡ Some b
    by None _ h = absurd (none-some addr h)
    by (Some i) at h =
        All-contains (λ a. owner_of configs a ≡ Some b) (addresses_of c) addr (apart.addresses b c is) (Contains-flat_map interface_addresses c.interfaces.items i addr (contains_slice_get c.interfaces.items iface i at) (address_listed i.transport i addr h))

-- ---- what holds at first

pub selecting_none : (x : Seen) → ((prefix : PrefixValue) → x.selected_at prefix ≡ None) → IsSelecting x
selecting_none x none = record {
  entry = λ prefix c is. absurd (none-some c (sym (none prefix) ∙ is));
  feasible = λ prefix c is. absurd (none-some c (sym (none prefix) ∙ is));
  above = λ prefix c is. absurd (none-some c (sym (none prefix) ∙ is));
}

nothing_updates : (sent : List SentDatagram) → sent ≡ [] → (b : ℕ) → updates_of b sent ≡ []
nothing_updates sent is b = ap (updates_of b) is

pub Holds-first : (configs : List Config) (w : World) → AreApart configs → IsFirst configs w → Holds configs w
Holds-first configs w apart first = record {
  size = first.size;
  router = λ b c is. (first.new b c is).router;
  collects = each_new (λ b x. x.collects ≡ false) configs w first (λ b c is new. new.collects ∙ apart.collection b c is) (λ b. refl);
  transports = each_new (λ b x. (iface : ℕ) (addr : Addr) → x.transport_at iface ≡ Some addr → owner_of configs addr ≡ Some b) configs w first (λ b c is new iface addr at. owned_transport configs b c iface addr apart is (sym (new.transports iface) ∙ at)) (λ b iface addr at. absurd (none-some addr at));
  addresses = each_new (λ b x. (iface : ℕ) (family : Family) (addr : Addr) → x.address_at iface family ≡ Some addr → owner_of configs addr ≡ Some b) configs w first (λ b c is new iface family addr at. owned configs b c family iface addr apart is (sym (new.addresses iface family) ∙ at)) (λ b iface family addr at. absurd (none-some addr at));
  seqno = each_new (λ b x. x.seqno < 65536) configs w first (λ b c is new. omega (arith, new.seqno, apart.seqnos b c is)) (λ b. omega arith);
  announces = each_new (λ b x. (prefix : PrefixValue) → x.announces prefix ≡ true → Lists configs b prefix) configs w first (λ b c is new prefix on. (c, is, sym (new.announces prefix) ∙ on)) (λ b prefix on. absurd (false≢true on));
  heard = each_new (λ b x. (prefix : PrefixValue) (peer : Peer) (h : HeardValue) → x.heard_at prefix peer ≡ Some h → WasSent configs w.sent prefix peer h) configs w first (λ b c is new prefix peer h at. absurd (none-some h (sym (new.entries prefix peer) ∙ at))) (λ b prefix peer h at. absurd (none-some h at));
  selecting = each_new (λ b x. IsSelecting x) configs w first (λ b c is new. selecting_none (speaker_at w b) new.selected) (λ b. selecting_none nothing (λ prefix. refl));
  others = each_new (λ b x. NamesOthers x) configs w first (λ b c is new prefix peer h at. absurd (none-some h (sym (new.entries prefix peer) ∙ at))) (λ b prefix peer h at. absurd (none-some h at));
  sources = subst (All (λ (d : SentDatagram). owner_of configs d.source ≡ Some d.node)) (sym first.sent) (All-nil (λ (d : SentDatagram). owner_of configs d.source ≡ Some d.node));
  updates = λ b u h. absurd (Contains-nil u (subst (λ us. Contains us u) (nothing_updates w.sent first.sent b) h));
}

sent_none : (s : NetSource) (sent : List SentDatagram) → sent ≡ [] → (b : ℕ) → sent_by s sent b ≡ []
sent_none s sent is b = ap (λ ds. sent_by s ds b) is

pub picture_first : (configs : List Config) (w : World) (pick : Option Selected → Option Pick) (s : NetSource) (raises : ℕ) → pick None ≡ None → IsFirst configs w → picture pick s raises w ≡ record (first_state (length configs) s.owner) { raises = raises }
picture_first configs w pick s raises none first =
    ap (λ nodes. record (picture pick s raises w) { nodes = nodes }) (sym (fill_by_all (picture_node pick s w) (replicate (length configs) quiet) (length w.speakers) quiet (rw length-replicate (sym first.size)) each))
  where
    each : (b : ℕ) → b < length w.speakers → get_or (replicate (length configs) quiet) b quiet ≡ picture_node pick s w b
    each b within =
        get_or-replicate (length configs) b quiet quiet (omega (arith, within, first.size))
        ∙ sym (node_same (picture_node pick s w b) quiet (sent_none s w.sent first.sent b) (ap pick (each_new (λ b x. x.selected_at s.prefix ≡ None) configs w first (λ b c is new. new.selected s.prefix) (λ b. refl) b) ∙ none))

pub view_first : (configs : List Config) (w : World) (s : NetSource) → IsFirst configs w → IsSource configs s → view configs s w ≡ first_state (length configs) s.owner
view_first configs w s first source =
    picture_first configs w (pick_of configs s) s (speaker_at w s.owner).raises refl first
    ∙ ap (λ raises. record (first_state (length configs) s.owner) { raises = raises }) ((first.new s.owner source.config source.is).raises)

pub bounds_first : (configs : List Config) (w : World) (s : NetSource) (raises : ℕ) → IsFirst configs w → (b : ℕ) → Bounds s raises ((speaker_at w b).source_at s.prefix s.router) (sent_by s w.sent b)
bounds_first configs w s raises first =
    each_new (λ b x. Bounds s raises (x.source_at s.prefix s.router) (sent_by s w.sent b)) configs w first (λ b c is new. subst (λ o. Bounds s raises o (sent_by s w.sent b)) (sym (new.sources s.prefix s.router)) (sent_none s w.sent first.sent b)) (λ b. sent_none s w.sent first.sent b)

pub HoldsFor-first : (configs : List Config) (w : World) (s : NetSource) → AreApart configs → IsFirst configs w → IsSource configs s → HoldsFor configs s w
HoldsFor-first configs w s apart first source = record {
  own_seqno = omega (arith, own.seqno, own.raises, source.start, start_word configs s apart source);
  bounds = bounds_first configs w s (speaker_at w s.owner).raises first;
  sound = subst IsSound (sym (view_first configs w s first source)) (IsSound-first_state (length configs) s.owner (slice_get_within configs s.owner source.config source.is));
}
  where
    own : IsNew source.config (speaker_at w s.owner)
    own = first.new s.owner source.config source.is

pub IsInvariant-first : (configs : List Config) (w : World) → AreApart configs → IsFirst configs w → IsInvariant configs w
IsInvariant-first configs w apart first = record {
  holds = Holds-first configs w apart first;
  counted = λ s source _. HoldsFor-first configs w s apart first source;
}
