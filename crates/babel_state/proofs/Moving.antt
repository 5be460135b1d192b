-- What a network sees of each call but `next_datagram`.
use Rattle.std.specs.Prelude.{◌≡◌, ◌⊎◌, ℕ, zero, suc, ◌+◌, ◌%◌, ◌<◌, ◌^◌, Bool, true, false, cond, ◌&&◌, ◌||◌, not, List, [], ◌∷◌, ◌++◌, map, slice_get, slice_set, Option, Some, None, is_some, if◌then◌else◌, ⊤}
use Rattle.std.specs.Option.{option_map, option_map_or, option_and_then}
use Rattle.std.specs.Ordering.{eq_by_cmp}
use Rattle.std.specs.FinMap.{find, put}
use Rattle.std.specs.FinMap.Entries.{find-put}
use Rattle.std.proofs.Common.{refl, sym, ap, ◌∙◌, arith, inl, inr}
use Rattle.std.proofs.lemmas.Bool.{true≢false}
use Rattle.std.proofs.lemmas.Option.{same_Some, none-some, slice_get-map}
use Rattle.std.proofs.lemmas.List.Elements.{All-head, All-tail, Contains-append_left, Contains-append_right}
use Rattle.babel_value.specs.declared.addresses.Addr.{Addr}
use Rattle.babel_value.specs.declared.addresses.Family.{Family}
use Rattle.babel_value.specs.declared.addresses.Family.TheVariants.{Ipv4, Ipv6}
use Rattle.babel_value.specs.declared.keys.Peer.{Peer}
use Rattle.babel_value.specs.Orders.{prefix_cmp}
use Rattle.babel_value.proofs.OrderLaws.{prefix_total, prefix_exact}
use Rattle.babel_value.specs.Prefixes.{PrefixValue}
use Rattle.babel_value.specs.Seqnos.{next_seqno}
use Rattle.babel_value.proofs.Orderings.{equal}
use Rattle.babel_message.specs.declared.messages.Message.{Message}
use Rattle.babel_message.specs.declared.placements.Content.{Content}
use Rattle.babel_message.specs.declared.placements.Content.TheVariants as contents
use Rattle.babel_message.specs.declared.placements.Placed.{Placed}
use Rattle.babel_packet.specs.Encodable.{is_encodable}
use Rattle.babel_packet.specs.Meaning.{content_messages, messages_of}
use Rattle.babel_table.specs.Entries.{without}
use Rattle.babel_sources.specs.Sources.{pair_of, collected}
use Rattle.babel_table.proofs.LookupLemmas.{find_with_value}
use Rattle.babel_state.specs.declared.interfaces.InterfaceEntry.{InterfaceEntry}
use Rattle.babel_state.specs.Queueing.{counted}
use Rattle.babel_state.specs.State.{State, PrefixSet, announces, pair_at, interface_at}
use Rattle.babel_state.specs.Addresses.{address_of, transport_of, address_at, transport_at}
use Rattle.babel_state.specs.SeqnoRequests.{raised}
use Rattle.babel_state.specs.Messages.{handle_message, handle_content, after_places}
use Rattle.babel_state.specs.Ticks.{requests_ticked, interfaces_ticked, sources_ticked, routes_selected, ticked}
use Rattle.babel_state.specs.Calls.{cost_set, announced_also, withdrawn, select_and_advertise}
use Rattle.babel_state.specs.Seen.{UpdateValue, HeardValue, update_of, updates_among, heard_at, seen, IsSelecting, IsHeardFrom, NamesOthers, Moves}
use Rattle.babel_state.specs.StepLaws.{settings_of, settings_in, OwnValue, own_of, KeepsOwn, GrowsOnce}
use Rattle.babel_state.specs.Invariants.{IsWellFormed}
use Rattle.babel_state.specs.SeenLaws.{AreEncodable, PlacesMove, TicksMove, CostsMove, AnnouncingMoves, WithdrawingMoves, RaisingMoves}
use Rattle.babel_state.proofs.Keeping.{message_own, before_sources, raised_own}
use Rattle.babel_state.proofs.Hearing.{messages_heard, ticks_heard}
use Rattle.babel_state.proofs.OwnRouters.{message_others, none_heard}
use Rattle.babel_state.proofs.SeeingLaws.{well_selecting}
use Rattle.babel_state.proofs.WellFormed.{message_well, tick_well, cost_well, announced_well, withdrawn_well, raised_well}
use Rattle.babel_state.proofs.TickTables.{cost_address}

-- ---- addresses

pub address_settled : (family : Family) (i : InterfaceEntry) → address_of family (settings_of i) ≡ address_of family i
address_settled Ipv4 i = refl
address_settled Ipv6 i = refl

at_settled : (g : InterfaceEntry → Option Addr) → ((i : InterfaceEntry) → g (settings_of i) ≡ g i) → (is : List InterfaceEntry) (k : ℕ) →
    option_and_then g (slice_get (map settings_of is) k) ≡ option_and_then g (slice_get is k)
at_settled g each is k = ap (option_and_then g) (slice_get-map settings_of is k) ∙ by (slice_get is k)
  where
    by : (m : Option InterfaceEntry) → option_and_then g (option_map settings_of m) ≡ option_and_then g m
    by None = refl
    by (Some i) = each i

at_kept : (g : InterfaceEntry → Option Addr) → ((i : InterfaceEntry) → g (settings_of i) ≡ g i) → (is js : List InterfaceEntry) → map settings_of is ≡ map settings_of js → (k : ℕ) →
    option_and_then g (slice_get is k) ≡ option_and_then g (slice_get js k)
at_kept g each is js same k = sym (at_settled g each is k) ∙ ap (λ xs. option_and_then g (slice_get xs k)) same ∙ at_settled g each js k

pub transport_kept : (s t : State) → settings_in t ≡ settings_in s → (iface : ℕ) → transport_at iface t ≡ transport_at iface s
transport_kept s t same iface = at_kept transport_of (λ i. address_settled i.transport i) t.interfaces s.interfaces same iface

pub address_kept : (s t : State) → settings_in t ≡ settings_in s → (iface : ℕ) (family : Family) → address_at iface family t ≡ address_at iface family s
address_kept s t same iface family = at_kept (address_of family) (address_settled family) t.interfaces s.interfaces same iface

-- ---- what is the speaker's own

pub record IsOwnMove (growths : ℕ) (announced : PrefixValue → Bool) (old new : State) : Type 0 where
  pub router : new.router ≡ old.router
  pub collects : new.collects ≡ old.collects
  pub transports : (iface : ℕ) → transport_at iface new ≡ transport_at iface old
  pub addresses : (iface : ℕ) (family : Family) → address_at iface family new ≡ address_at iface family old
  pub seqno : new.seqno ≡ (old.seqno + growths) % 65536
  pub raises : new.raises ≡ counted old.raises growths
  pub announces : (prefix : PrefixValue) → announces prefix new ≡ announced prefix
  pub sources : old.collects ≡ false → (prefix : PrefixValue) (router : List ℕ) → pair_at prefix router new ≡ pair_at prefix router old

moves_from : (peer : Peer) (updates : List UpdateValue) (growths : ℕ) (announced : PrefixValue → Bool) (old new : State) → IsOwnMove growths announced old new →
    ((prefix : PrefixValue) (from : Peer) (h : HeardValue) → heard_at prefix from new ≡ Some h → (heard_at prefix from old ≡ Some h) ⊎ IsHeardFrom peer updates prefix from h) →
    (NamesOthers (seen old) → NamesOthers (seen new)) → IsSelecting (seen new) → Moves peer updates growths announced (seen old) (seen new)
unfolding seen
moves_from peer updates growths announced old new own entries others selecting = record {
  router = own.router;
  collects = own.collects;
  transports = own.transports;
  addresses = own.addresses;
  seqno = own.seqno;
  raises = own.raises;
  announces = own.announces;
  sources = own.sources;
  entries = entries;
  others = others;
  selecting = selecting;
}

-- with nothing heard
pub moves_alone : (peer : Peer) (growths : ℕ) (announced : PrefixValue → Bool) (old new : State) → IsOwnMove growths announced old new →
    ((prefix : PrefixValue) (from : Peer) (h : HeardValue) → heard_at prefix from new ≡ Some h → (heard_at prefix from old ≡ Some h) ⊎ IsHeardFrom peer [] prefix from h) →
    IsSelecting (seen new) → Moves peer [] growths announced (seen old) (seen new)
moves_alone peer growths announced old new own entries selecting =
    moves_from peer [] growths announced old new own entries (none_heard peer old new own.router entries) selecting

abbrev own_with : State → ℕ → ℕ → PrefixSet → OwnValue
own_with s seqno raises announced = record {
  router = s.router;
  collects = s.collects;
  seqno = seqno;
  raises = raises;
  announced = announced;
  interfaces = settings_in s;
  sources = s.sources;
  left_out = s.left_out;
}

own_move : (growths : ℕ) (old new : State) (seqno raises : ℕ) (announced : PrefixSet) (is : PrefixValue → Bool) → own_of new ≡ own_with old seqno raises announced →
    seqno ≡ (old.seqno + growths) % 65536 → raises ≡ counted old.raises growths → ((prefix : PrefixValue) → is_some (find prefix_cmp prefix announced) ≡ is prefix) →
    IsOwnMove growths is old new
unfolding own_of
own_move growths old new seqno raises announced is same next count local = record {
  router = ap (λ (o : OwnValue). o.router) same;
  collects = ap (λ (o : OwnValue). o.collects) same;
  transports = transport_kept old new (ap (λ (o : OwnValue). o.interfaces) same);
  addresses = address_kept old new (ap (λ (o : OwnValue). o.interfaces) same);
  seqno = ap (λ (o : OwnValue). o.seqno) same ∙ next;
  raises = ap (λ (o : OwnValue). o.raises) same ∙ count;
  announces = λ prefix. ap (λ (o : OwnValue). is_some (find prefix_cmp prefix o.announced)) same ∙ local prefix;
  sources = λ off prefix router. ap (λ (o : OwnValue). pair_of (record { prefix = prefix; router = router }) o.sources) same;
}

no_growth : (n : ℕ) → n < 65536 → n ≡ (n + 0) % 65536
no_growth n small = omega (arith, small)

no_count : (n : ℕ) → n < 2 ^ 64 → n ≡ counted n 0
no_count n small = omega (arith, small)

pub kept_move : (old new : State) → IsWellFormed old → KeepsOwn old new → IsOwnMove 0 (λ prefix. announces prefix old) old new
unfolding own_of
kept_move old new well same =
    own_move 0 old new old.seqno old.raises old.announced (λ prefix. announces prefix old) same (no_growth old.seqno well.tables.seqno) (no_count old.raises well.tables.raises) (λ prefix. refl)

grown_move : (old new : State) → GrowsOnce old new → IsOwnMove 1 (λ prefix. announces prefix old) old new
unfolding own_of
grown_move old new same =
    own_move 1 old new (next_seqno old.seqno) (counted old.raises 1) old.announced (λ prefix. announces prefix old) same refl refl (λ prefix. refl)

-- ---- messages

abbrev pub announced_in : State → PrefixValue → Bool
announced_in s prefix = announces prefix s

abbrev MovesBy : Peer → List UpdateValue → State → State → Type 0
MovesBy peer updates old new = (growths : ℕ) × Moves peer updates growths (announced_in old) (seen old) (seen new)

message_moves : (now : ℕ) (peer : Peer) (message : Message) (s : State) → is_encodable message ≡ true → IsWellFormed s → MovesBy peer (update_of message) s (handle_message now peer message s).0
message_moves now peer message s encodable well = by (message_own now peer message s)
  where
    new : State
    new = (handle_message now peer message s).0

    heard : (prefix : PrefixValue) (from : Peer) (h : HeardValue) → heard_at prefix from new ≡ Some h → (heard_at prefix from s ≡ Some h) ⊎ IsHeardFrom peer (update_of message) prefix from h
    heard = (messages_heard now peer message s well.tables.routes.entries_in_order).1

    others : NamesOthers (seen s) → NamesOthers (seen new)
    others = message_others now peer message s well.tables.routes.entries_in_order

    selecting : IsSelecting (seen new)
    selecting = well_selecting new (message_well now peer message s encodable well)

    by : KeepsOwn s new ⊎ GrowsOnce s new → MovesBy peer (update_of message) s new
    by (inl same) = (0, moves_from peer (update_of message) 0 (announced_in s) s new (kept_move s new well same) heard others selecting)
    by (inr same) = (1, moves_from peer (update_of message) 1 (announced_in s) s new (grown_move s new same) heard others selecting)

stays : (peer : Peer) (s : State) → IsWellFormed s → MovesBy peer [] s s
stays peer s well = (0, moves_alone peer 0 (announced_in s) s s (kept_move s s well refl) (λ prefix from h is. inl is) (well_selecting s well))

seqno_twice : (n a b : ℕ) → ((n + a) % 65536 + b) % 65536 ≡ (n + (a + b)) % 65536
seqno_twice n a b = omega arith

count_twice : (d a b : ℕ) → counted (counted d a) b ≡ counted d (a + b)
count_twice d a b = omega arith

moves_then : (peer : Peer) (us vs : List UpdateValue) (r s t : State) → MovesBy peer us r s → MovesBy peer vs s t → MovesBy peer (us ++ vs) r t
unfolding seen
moves_then peer us vs r s t first second =
    let a = first.1 in
    let b = second.1 in (
      first.0 + second.0,
      record {
        router = b.router ∙ a.router;
        collects = b.collects ∙ a.collects;
        transports = λ iface. b.transports iface ∙ a.transports iface;
        addresses = λ iface family. b.addresses iface family ∙ a.addresses iface family;
        seqno = b.seqno ∙ ap (λ n. (n + second.0) % 65536) a.seqno ∙ seqno_twice r.seqno first.0 second.0;
        raises = b.raises ∙ ap (λ n. counted n second.0) a.raises ∙ count_twice r.raises first.0 second.0;
        announces = λ prefix. b.announces prefix ∙ a.announces prefix;
        sources = λ off prefix router. b.sources (a.collects ∙ off) prefix router ∙ a.sources off prefix router;
        entries = λ prefix from h is. heard prefix from h (b.entries prefix from h is) (λ there. a.entries prefix from h there);
        others = λ before. b.others (a.others before);
        selecting = b.selecting;
      },
    )
  where
    heard : (prefix : PrefixValue) (from : Peer) (h : HeardValue) → (heard_at prefix from s ≡ Some h) ⊎ IsHeardFrom peer vs prefix from h →
        (heard_at prefix from s ≡ Some h → (heard_at prefix from r ≡ Some h) ⊎ IsHeardFrom peer us prefix from h) → (heard_at prefix from r ≡ Some h) ⊎ IsHeardFrom peer (us ++ vs) prefix from h
    heard prefix from h (inr there) before = inr (there.0, Contains-append_right us vs _ there.1)
    heard prefix from h (inl there) before = left (before there)
      where
        left : (heard_at prefix from r ≡ Some h) ⊎ IsHeardFrom peer us prefix from h → (heard_at prefix from r ≡ Some h) ⊎ IsHeardFrom peer (us ++ vs) prefix from h
        left (inl old) = inl old
        left (inr there) = inr (there.0, Contains-append_left us vs _ there.1)

abbrev GoesOn : ℕ → Peer → List Placed → State → Type 0
GoesOn now peer placed s = IsWellFormed (after_places now peer placed s) × MovesBy peer (updates_among (messages_of placed)) s (after_places now peer placed s)

pub places_move : PlacesMove
unfolding seen
places_move now peer [] s encodable well = (well, stays peer s well)
places_move now peer (x ∷ xs) s encodable well = by x.content encodable (λ t e w. places_move now peer xs t e w)
  where
    by : (content : Content) → AreEncodable (content_messages content (messages_of xs)) → ((t : State) → AreEncodable (messages_of xs) → IsWellFormed t → GoesOn now peer xs t) →
        IsWellFormed (after_places now peer xs (handle_content now peer content s).0)
        × MovesBy peer (updates_among (content_messages content (messages_of xs))) s (after_places now peer xs (handle_content now peer content s).0)
    by (contents.Message message) encodable rest =
        let one = All-head (λ m. is_encodable m ≡ true) message (messages_of xs) encodable in
        let t : State = (handle_message now peer message s).0 in
        let on = rest t (All-tail (λ m. is_encodable m ≡ true) message (messages_of xs) encodable) (message_well now peer message s one well) in
        (on.0, moves_then peer (update_of message) (updates_among (messages_of xs)) s t (after_places now peer xs t) (message_moves now peer message s one well) on.1)
    by contents.State encodable rest = rest s encodable well
    by (contents.Ignored reason) encodable rest = rest s encodable well

-- ---- a tick

pub tick_moves : TicksMove
unfolding ticked sources_ticked seen
tick_moves now s well peer =
    moves_alone peer 0 (announced_in s) s (ticked now s) (by t.collects refl)
    (λ prefix from h is. inl ((ticks_heard now s well.tables.routes.entries_in_order).1 prefix from h is)) (well_selecting (ticked now s) (tick_well now s well))
  where
    t : State
    t = interfaces_ticked now (requests_ticked now (routes_selected now s))

    own : IsOwnMove 0 (announced_in s) s t
    own = kept_move s t well (before_sources now s)

    by : (b : Bool) → t.collects ≡ b → IsOwnMove 0 (announced_in s) s (if b then record t { sources = collected now t.sources } else t)
    by true is = record {
      router = own.router;
      collects = own.collects;
      transports = own.transports;
      addresses = own.addresses;
      seqno = own.seqno;
      raises = own.raises;
      announces = own.announces;
      sources = λ off prefix router. absurd (true≢false (sym is ∙ own.collects ∙ off));
    }
    by false is = own

-- ---- other calls

at_set : (g : InterfaceEntry → Option Addr) (is : List InterfaceEntry) (k : ℕ) (v old : InterfaceEntry) (j : ℕ) → slice_get is k ≡ Some old → g v ≡ g old →
    option_and_then g (slice_get (slice_set is k v) j) ≡ option_and_then g (slice_get is j)
at_set g [] k v old j at same = absurd (none-some old at)
at_set g (i ∷ is) zero v old zero at same = same ∙ ap g (sym (same_Some i old at))
at_set g (i ∷ is) zero v old (suc j) at same = refl
at_set g (i ∷ is) (suc k) v old zero at same = refl
at_set g (i ∷ is) (suc k) v old (suc j) at same = at_set g is k v old j at same

pub cost_moves : CostsMove
unfolding cost_set seen
cost_moves iface cost s free well peer = by (cost_well iface cost s free well)
  where
    own : (m : Option InterfaceEntry) → interface_at iface s ≡ m →
        IsOwnMove 0 (announced_in s) s (option_map_or (λ i. record s { interfaces = slice_set s.interfaces iface (record i { cost = cost }) }) m s)
    own None at = kept_move s s well refl
    own (Some i) at = record {
      router = refl;
      collects = refl;
      transports = λ j. at_set transport_of s.interfaces iface (record i { cost = cost }) i j at (cost_address cost i.transport i);
      addresses = λ j family. at_set (address_of family) s.interfaces iface (record i { cost = cost }) i j at (cost_address cost family i);
      seqno = no_growth s.seqno well.tables.seqno;
      raises = no_count s.raises well.tables.raises;
      announces = λ prefix. refl;
      sources = λ off prefix router. refl;
    }

    heard : (m : Option InterfaceEntry) (prefix : PrefixValue) (from : Peer) (h : HeardValue) →
        heard_at prefix from (option_map_or (λ i. record s { interfaces = slice_set s.interfaces iface (record i { cost = cost }) }) m s) ≡ Some h → (heard_at prefix from s ≡ Some h) ⊎ IsHeardFrom peer [] prefix from h
    heard None prefix from h is = inl is
    heard (Some i) prefix from h is = inl is

    by : IsWellFormed (cost_set iface cost s) → Moves peer [] 0 (announced_in s) (seen s) (seen (cost_set iface cost s))
    by after =
        moves_alone peer 0 (announced_in s) s (cost_set iface cost s) (own (interface_at iface s) refl) (heard (interface_at iface s)) (well_selecting (cost_set iface cost s) after)

advertised_move : (prefix : PrefixValue) (announced : PrefixSet) (is : PrefixValue → Bool) (s : State) → IsWellFormed s → ((q : PrefixValue) → is_some (find prefix_cmp q announced) ≡ is q) →
    IsOwnMove 0 is s (select_and_advertise prefix (record s { announced = announced }))
advertised_move prefix announced is s well local = record {
  router = refl;
  collects = refl;
  transports = λ iface. refl;
  addresses = λ iface family. refl;
  seqno = no_growth s.seqno well.tables.seqno;
  raises = no_count s.raises well.tables.raises;
  announces = local;
  sources = λ off p router. refl;
}

pub announced_moves : AnnouncingMoves
unfolding announced_also seen
announced_moves prefix s room well peer = by (announced_well prefix s room well)
  where
    also : PrefixValue → Bool
    also q = eq_by_cmp prefix_cmp q prefix || announces q s

    there : (b : Bool) → announces prefix s ≡ b → IsOwnMove 0 also s (if b then s else select_and_advertise prefix (record s { announced = put prefix_cmp prefix tt s.announced }))
    there false at =
        advertised_move prefix (put prefix_cmp prefix tt s.announced) also s well
        (λ q. ap is_some (find-put prefix_cmp prefix_total q prefix tt s.announced) ∙ either (eq_by_cmp prefix_cmp q prefix) (find prefix_cmp q s.announced))
      where
        either : (b : Bool) (m : Option ⊤) → is_some (cond b (Some tt) m) ≡ (b || is_some m)
        either true m = refl
        either false m = refl
    there true at = record {
      router = refl;
      collects = refl;
      transports = λ iface. refl;
      addresses = λ iface family. refl;
      seqno = no_growth s.seqno well.tables.seqno;
      raises = no_count s.raises well.tables.raises;
      announces = λ q. known q (eq_by_cmp prefix_cmp q prefix) refl;
      sources = λ off p router. refl;
    }
      where
        known : (q : PrefixValue) (b : Bool) → eq_by_cmp prefix_cmp q prefix ≡ b → announces q s ≡ (b || announces q s)
        known q true same = ap (λ p. announces p s) (prefix_exact q prefix (equal (prefix_cmp q prefix) same)) ∙ at
        known q false same = refl

    heard : (b : Bool) (p : PrefixValue) (from : Peer) (h : HeardValue) →
        heard_at p from (if b then s else select_and_advertise prefix (record s { announced = put prefix_cmp prefix tt s.announced })) ≡ Some h → (heard_at p from s ≡ Some h) ⊎ IsHeardFrom peer [] p from h
    heard true p from h is = inl is
    heard false p from h is = inl is

    by : IsWellFormed (announced_also prefix s) → Moves peer [] 0 also (seen s) (seen (announced_also prefix s))
    by after =
        moves_alone peer 0 also s (announced_also prefix s) (there (announces prefix s) refl) (heard (announces prefix s)) (well_selecting (announced_also prefix s) after)

pub withdrawn_moves : WithdrawingMoves
unfolding withdrawn seen
withdrawn_moves prefix s well peer = by (withdrawn_well prefix s well)
  where
    less : PrefixValue → Bool
    less q = not (eq_by_cmp prefix_cmp q prefix) && announces q s

    gone : (b : Bool) (m : Option ⊤) → is_some (cond b None m) ≡ (not b && is_some m)
    gone true m = refl
    gone false m = refl

    by : IsWellFormed (withdrawn prefix s) → Moves peer [] 0 less (seen s) (seen (withdrawn prefix s))
    by after =
        moves_alone peer 0 less s (withdrawn prefix s)
        (advertised_move prefix (without prefix_cmp prefix s.announced) less s well
        (λ q. ap is_some (find_with_value prefix_cmp prefix_total prefix_exact q prefix None s.announced) ∙ gone (eq_by_cmp prefix_cmp q prefix) (find prefix_cmp q s.announced)))
        (λ p from h is. inl is) (well_selecting (withdrawn prefix s) after)

pub raised_moves : RaisingMoves
unfolding seen
raised_moves s well peer =
    moves_alone peer 1 (announced_in s) s (raised s) (grown_move s (raised s) (raised_own s)) (λ p from h is. inl is) (well_selecting (raised s) (raised_well s well))
