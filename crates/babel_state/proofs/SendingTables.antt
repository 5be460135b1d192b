-- What a datagram's messages advertise, and that a datagram leaves a well-formed state.
use Rattle.std.specs.Prelude.{◌≡◌, ◌⊎◌, ℕ, ◌*◌, ◌≤◌, ◌<◌, Bool, true, false, cond, ◌&&◌, ◌==◌, not, nat_lt, List, [], ◌∷◌, All, IfSome, IsSome, length, slice_set, Option, Some, None, if◌then◌else◌, ⊤}
use Rattle.std.specs.Option.{option_map, option_map_or, option_and_then}
use Rattle.std.specs.Ordering.{eq_by_cmp}
use Rattle.std.specs.FinMap.{find}
use Rattle.std.proofs.Common.{refl, sym, ap, subst, ◌∙◌, arith, inl, inr, length-set}
use Rattle.std.proofs.lemmas.Bool.{and_parts, and_from, or_right, ltb-true, lt-ltb, true≢false, eq-eqb}
use Rattle.std.proofs.lemmas.Option.{same_Some}
use Rattle.std.proofs.lemmas.List.Elements.{All-nil, All-tail, All-set}
use Rattle.babel_value.specs.declared.addresses.Addr.{Addr}
use Rattle.babel_value.specs.declared.addresses.Family.{Family}
use Rattle.babel_value.specs.declared.addresses.Family.TheVariants.{Ipv4, Ipv6}
use Rattle.babel_value.specs.declared.distances.Distance.{Distance}
use Rattle.babel_value.specs.declared.keys.Source.{Source}
use Rattle.babel_value.specs.Addresses.{family_of}
use Rattle.babel_value.specs.Distances.{is_better}
use Rattle.babel_value.specs.Seqnos.{is_before}
use Rattle.babel_value.specs.Orders.{source_cmp}
use Rattle.babel_value.proofs.OrderLaws.{source_total, source_exact}
use Rattle.babel_value.specs.Prefixes.{PrefixValue}
use Rattle.babel_value.proofs.Orderings.{equal}
use Rattle.babel_message.specs.declared.messages.Message.{Message}
use Rattle.babel_message.specs.declared.messages.Message.TheVariants as messages
use Rattle.babel_choice.specs.declared.entries.Selection.{Selection}
use Rattle.babel_sources.specs.declared.sources.SourceEntry.{SourceEntry}
use Rattle.babel_sources.specs.Distances.{is_feasible, better_pair}
use Rattle.babel_choice.specs.Routes.{Route, key_of}
use Rattle.babel_choice.specs.Choices.{is_candidate, is_feasible_route, route_metric}
use Rattle.babel_sources.specs.Sources.{pair_of, source_entry_after, lowered}
use Rattle.babel_sources.proofs.PairLemmas.{pair_lowered}
use Rattle.babel_state.specs.declared.interfaces.InterfaceEntry.{InterfaceEntry}
use Rattle.babel_state.specs.declared.items.Item.{Item}
use Rattle.babel_state.specs.declared.items.Item.TheVariants as items
use Rattle.babel_state.specs.declared.items.Outgoing.{Outgoing}
use Rattle.babel_state.specs.declared.items.Outgoing.TheVariants as outgoings
use Rattle.babel_state.specs.declared.items.Target.{Target}
use Rattle.babel_state.specs.Queueing.{counted}
use Rattle.babel_state.specs.State.{State, announces, is_neighbour, interface_at, cost_at, selected_at, with_interface}
use Rattle.babel_state.specs.Addresses.{address_of, address_at}
use Rattle.babel_state.specs.OutgoingMessages.{Advertisement, own_advertisement, route_advertisement, is_source_too_many, outgoing_ihu, outgoing_finite, outgoing_advertisement, outgoing_update, outgoing_over, outgoing}
use Rattle.babel_state.specs.NextDatagram.{Fits, Draft, next_hello, lower_source, after_message, with_message, goes_to, draft_with, left_out_more, without_first, drafted, next_datagram}
use Rattle.babel_state.specs.Invariants.{IsUsable, HasHops, AreTables, IsSelectable, AreSelectable, IsWellFormed, SendingKeepsWellFormed}
use Rattle.babel_state.proofs.Tables.{each_put, each_find, few_put}
use Rattle.babel_state.proofs.TableLaws.{interfaces_tables, sources_tables, pending_tables, left_out_tables}
use Rattle.babel_state.proofs.TickTables.{usable_at}
use Rattle.babel_state.proofs.SelectableTicks.{costs_positive, interface_good}
use Rattle.babel_state.proofs.SendingLaws.{if_some}
use Rattle.babel_state.proofs.SeeingLaws.{below_sum}
use Rattle.babel_table.proofs.PlaceLemmas.{sorted_put}

-- ---- what an item means

abbrev pub IsOwn : State → PrefixValue → List ℕ → Distance → Type 0
IsOwn s prefix router distance = (announces prefix s ≡ true) × (router ≡ s.router) × (distance ≡ record { seqno = s.seqno; metric = 0 })

abbrev pub IsOfRoute : State → PrefixValue → List ℕ → Distance → Type 0
IsOfRoute s prefix router distance =
    (route : Selection) × (selected_at prefix s ≡ Some route) × (router ≡ route.entry.router)
    × (distance ≡ record { seqno = route.entry.distance.seqno; metric = route_metric (cost_at s) (key_of prefix route.peer, route.entry) })

pub record IsUpdate (s : State) (iface : ℕ) (prefix : PrefixValue) (router : List ℕ) (hop : Addr) (distance : Distance) : Type 0 where
  pub advertised : IsOwn s prefix router distance ⊎ IsOfRoute s prefix router distance
  pub own_hop : address_at iface (family_of prefix.addr) s ≡ Some hop
  pub room : is_source_too_many (record { prefix = prefix; router = router }) s.sources ≡ false

abbrev pub IsMeant : State → ℕ → Message → Type 0
IsMeant s iface (messages.Update prefix router hop seqno metric interval) = IsUpdate s iface prefix router hop (record { seqno = seqno; metric = metric })
IsMeant s iface message = ⊤

abbrev pub IsMeaning : State → Outgoing → Type 0
IsMeaning s outgoings.Nothing = ⊤
IsMeaning s outgoings.LeftOut = ⊤
IsMeaning s (outgoings.Message target message) = IsMeant s target.iface message

finite_meant : (s : State) (target : Target) (prefix : PrefixValue) (t : Advertisement) (i : InterfaceEntry) (hop : Option Addr) →
    interface_at target.iface s ≡ Some i → address_of (family_of prefix.addr) i ≡ hop →
    IsOwn s prefix t.router t.distance ⊎ IsOfRoute s prefix t.router t.distance → IsMeaning s (outgoing_finite target prefix t i s hop)
finite_meant s target prefix t i None at own from = tt
finite_meant s target prefix t i (Some hop) at own from = by (is_source_too_many (record { prefix = prefix; router = t.router }) s.sources) refl
  where
    by : (b : Bool) → is_source_too_many (record { prefix = prefix; router = t.router }) s.sources ≡ b →
        IsMeaning s (if b then outgoings.LeftOut else outgoings.Message target (messages.Update prefix t.router hop t.distance.seqno t.distance.metric (4 * i.hello)))
    by true is = tt
    by false is = record { advertised = from; own_hop = ap (option_and_then (address_of (family_of prefix.addr))) at ∙ own; room = is }

update_meant : (s : State) (target : Target) (prefix : PrefixValue) (i : InterfaceEntry) → interface_at target.iface s ≡ Some i → IsMeaning s (outgoing_update target prefix s i)
update_meant s target prefix i at = by (announces prefix s) refl (selected_at prefix s) refl
  where
    by : (b : Bool) → announces prefix s ≡ b → (m : Option Selection) → selected_at prefix s ≡ m →
        IsMeaning s (outgoing_advertisement target prefix s i (if b then Some (own_advertisement s) else option_map_or (λ route. Some (route_advertisement prefix s route)) m None))
    by true own m selected = finite_meant s target prefix (own_advertisement s) i (address_of (family_of prefix.addr) i) at refl (inl (own, refl, refl))
    by false own None selected = tt
    by false own (Some route) selected =
        finite_meant s target prefix (route_advertisement prefix s route) i (address_of (family_of prefix.addr) i) at refl (inr (route, selected, refl, refl))

over_meant : (s : State) (iface : ℕ) (f : InterfaceEntry → Outgoing) → ((i : InterfaceEntry) → interface_at iface s ≡ Some i → IsMeaning s (f i)) → IsMeaning s (outgoing_over f (interface_at iface s))
over_meant s iface f each = by (interface_at iface s) refl
  where
    by : (m : Option InterfaceEntry) → interface_at iface s ≡ m → IsMeaning s (outgoing_over f m)
    by None at = tt
    by (Some i) at = each i at

pub item_meant : (s : State) (x : Item) → IsMeaning s (outgoing s x)
unfolding outgoing
item_meant s (items.Hello iface) = over_meant s iface _ (λ i at. tt)
item_meant s (items.Ihu peer) = by (is_neighbour peer s)
  where
    by : (b : Bool) → IsMeaning s (if b then outgoing_over (outgoing_ihu peer s) (interface_at peer.iface s) else outgoings.Nothing)
    by true = over_meant s peer.iface (outgoing_ihu peer s) (λ i at. tt)
    by false = tt
item_meant s (items.Update target prefix) = over_meant s target.iface (outgoing_update target prefix s) (λ i at. update_meant s target prefix i at)
item_meant s (items.Request peer source seqno hops) = over_meant s peer.iface _ (λ i at. tt)
item_meant s (items.Ack peer opaque) = over_meant s peer.iface _ (λ i at. tt)

-- ---- a source that is lowered

sent_below : (d sent : Distance) → d.seqno ≡ sent.seqno → d.metric < sent.metric → is_better d sent ≡ true
sent_below d sent same below =
    or_right (is_before sent.seqno d.seqno) (d.seqno == sent.seqno && nat_lt d.metric sent.metric)
    (and_from (d.seqno == sent.seqno) (nat_lt d.metric sent.metric) (eq-eqb d.seqno sent.seqno same) (lt-ltb d.metric sent.metric below))

still_feasible : (pair : Option Distance) (d sent : Distance) → d.seqno ≡ sent.seqno → d.metric < sent.metric → is_feasible pair d ≡ true → is_feasible (Some (better_pair pair sent)) d ≡ true
still_feasible None d sent same below feasible = or_right (not (nat_lt d.metric 65535)) (is_better d sent) (sent_below d sent same below)
still_feasible (Some pair) d sent same below feasible = by (is_better sent pair)
  where
    by : (b : Bool) → is_feasible (Some (if b then sent else pair)) d ≡ true
    by true = or_right (not (nat_lt d.metric 65535)) (is_better d sent) (sent_below d sent same below)
    by false = feasible

lowered_selectable : (now : ℕ) (s : State) (iface : ℕ) (prefix : PrefixValue) (router : List ℕ) (hop : Addr) (sent : Distance) → IsUpdate s iface prefix router hop sent → IsWellFormed s →
    AreSelectable (lower_source now (record { prefix = prefix; router = router }) sent s)
lowered_selectable now s iface prefix router hop sent update well q route at =
    let old = well.selections q route at in
    let route_of : Route = (key_of q route.peer, route.entry) in
    let local = and_parts (not (announces q s)) (is_candidate s.sources (cost_at s) route_of) old.1 in
    let parts = and_parts (is_feasible_route s.sources route_of) (nat_lt (route_metric (cost_at s) route_of) 65535) local.1 in
    let source : Source = record { prefix = prefix; router = router } in
    let other : Source = record { prefix = q; router = route.entry.router } in
    let feasible : is_feasible_route (lowered now source sent s.sources) route_of ≡ true =
    ap (λ m. is_feasible m route.entry.distance) (pair_lowered now source other sent s.sources)
    ∙ by old local.0 parts.0 (ltb-true (route_metric (cost_at s) route_of) 65535 parts.1) (eq_by_cmp source_cmp other source) refl
    in
    (old.0, and_from (not (announces q s)) _ local.0 (and_from _ _ feasible parts.1))
  where
    named : Source
    named = record { prefix = prefix; router = router }

    mine : Source
    mine = record { prefix = q; router = route.entry.router }

    by : IsSelectable q s route → not (announces q s) ≡ true → is_feasible (pair_of mine s.sources) route.entry.distance ≡ true → route_metric (cost_at s) (key_of q route.peer, route.entry) < 65535 →
        (b : Bool) → eq_by_cmp source_cmp mine named ≡ b →
        is_feasible (cond b (Some (better_pair (pair_of named s.sources) sent)) (pair_of mine s.sources)) route.entry.distance ≡ true
    by old local feasible finite false e = feasible
    by old local feasible finite true e = from update.advertised
      where
        same : mine ≡ named
        same = source_exact mine named (equal _ e)

        from : IsOwn s prefix router sent ⊎ IsOfRoute s prefix router sent → is_feasible (Some (better_pair (pair_of named s.sources) sent)) route.entry.distance ≡ true
        from (inl own) = absurd (true≢false (sym local ∙ ap not (ap (λ (k : Source). announces k.prefix s) same ∙ own.0)))
        from (inr r) =
            let one : route ≡ r.0 = same_Some route r.0 (sym at ∙ ap (λ (k : Source). selected_at k.prefix s) same ∙ r.1) in
            let metric : sent.metric ≡ route_metric (cost_at s) (key_of q route.peer, route.entry) =
            ap (λ (d : Distance). d.metric) r.3 ∙ (λ i. route_metric (cost_at s) (key_of (sym same i).prefix (sym one i).peer, (sym one i).entry))
            in
            let below : route.entry.distance.metric < sent.metric =
            subst (λ m. route.entry.distance.metric < m) (sym metric) (below_sum route.entry.distance.metric (cost_at s route.peer) (costs_positive s well.tables route.peer) finite)
            in
            still_feasible (pair_of named s.sources) route.entry.distance sent (ap (λ (c : Selection). c.entry.distance.seqno) one ∙ sym (ap (λ (d : Distance). d.seqno) r.3)) below
            (subst (λ k. is_feasible (pair_of k s.sources) route.entry.distance ≡ true) same feasible)

-- ---- its table

pub sent_finite : (s : State) (iface : ℕ) (prefix : PrefixValue) (router : List ℕ) (hop : Addr) (sent : Distance) → IsUpdate s iface prefix router hop sent → IsWellFormed s → sent.metric < 65535
sent_finite s iface prefix router hop sent update well = from update.advertised
  where
    from : IsOwn s prefix router sent ⊎ IsOfRoute s prefix router sent → sent.metric < 65535
    from (inl own) = subst (λ (d : Distance). d.metric < 65535) (sym own.2) (omega arith)
    from (inr r) =
        let parts = and_parts (not (announces prefix s)) (is_candidate s.sources (cost_at s) (key_of prefix r.0.peer, r.0.entry)) (well.selections prefix r.0 r.1).1 in
        let finite = and_parts (is_feasible_route s.sources (key_of prefix r.0.peer, r.0.entry)) (nat_lt (route_metric (cost_at s) (key_of prefix r.0.peer, r.0.entry)) 65535) parts.1 in
        subst (λ (d : Distance). d.metric < 65535) (sym r.3) (ltb-true (route_metric (cost_at s) (key_of prefix r.0.peer, r.0.entry)) 65535 finite.1)

better_finite : (m : Option SourceEntry) (sent : Distance) → sent.metric < 65535 → ((e : SourceEntry) → m ≡ Some e → e.distance.metric < 65535) → (better_pair (option_map (λ e. e.distance) m) sent).metric < 65535
better_finite None sent finite each = finite
better_finite (Some e) sent finite each = by (is_better sent e.distance)
  where
    by : (b : Bool) → (if b then sent else e.distance).metric < 65535
    by true = finite
    by false = each e refl

lowered_tables : (now : ℕ) (s : State) (source : Source) (sent : Distance) → sent.metric < 65535 → is_source_too_many source s.sources ≡ false → AreTables s → AreTables (lower_source now source sent s)
lowered_tables now s source sent finite room t =
    sources_tables s (lowered now source sent s.sources)
    (record {
      few = few_put source_cmp source_total source (source_entry_after now (pair_of source s.sources) sent) 512 s.sources t.sources.in_order t.sources.few room;
      finite = each_put source_cmp (λ (e : SourceEntry). e.distance.metric < 65535) source (source_entry_after now (pair_of source s.sources) sent) s.sources
          (better_finite (find source_cmp source s.sources) sent finite (λ e at. each_find source_cmp (λ (e : SourceEntry). e.distance.metric < 65535) source e s.sources t.sources.finite at)) t.sources.finite;
      in_order = sorted_put source_cmp source_total source (source_entry_after now (pair_of source s.sources) sent) s.sources t.sources.in_order;
    }) t

-- ---- a Hello

hello_address : (family : Family) (i : InterfaceEntry) → address_of family (next_hello i) ≡ address_of family i
hello_address Ipv4 i = refl
hello_address Ipv6 i = refl

hello_usable : (i : InterfaceEntry) → IsUsable i → IsUsable (next_hello i)
hello_usable i u = record { cost = u.cost; hello = u.hello; transport = subst IsSome (sym (hello_address i.transport i)) u.transport }

hello_tables : (iface : ℕ) (s : State) → AreTables s → AreTables (with_interface iface next_hello s)
hello_tables iface s t = by (interface_at iface s) refl
  where
    by : (m : Option InterfaceEntry) → interface_at iface s ≡ m → AreTables (option_map_or (λ i. record s { interfaces = slice_set s.interfaces iface (next_hello i) }) m s)
    by None at = t
    by (Some i) at =
        interfaces_tables s (slice_set s.interfaces iface (next_hello i))
        (record {
          few = omega (arith, length-set s.interfaces iface (next_hello i), t.interfaces.few);
          usable = All-set IsUsable s.interfaces iface (next_hello i) (hello_usable i (usable_at iface s i at t)) t.interfaces.usable;
        }) t

-- ---- a message, and each item

pub message_well : (now : ℕ) (target : Target) (m : Message) (s : State) → IsMeant s target.iface m → IsWellFormed s → IsWellFormed (after_message now target m s)
unfolding after_message
message_well now target (messages.AckRequest opaque interval) s meant well = well
message_well now target (messages.Ack opaque) s meant well = well
message_well now target (messages.Hello unicast seqno interval) s meant well = record {
  tables = hello_tables target.iface s well.tables;
  selections = (interface_good target.iface next_hello s (λ peer i at. refl)).selectable well.selections;
}
message_well now target (messages.Ihu to rxcost interval) s meant well = well
message_well now target (messages.Update prefix router hop seqno metric interval) s meant well =
    let sent : Distance = record { seqno = seqno; metric = metric } in
    record {
      tables = lowered_tables now s (record { prefix = prefix; router = router }) sent (sent_finite s target.iface prefix router hop sent meant well) meant.room well.tables;
      selections = lowered_selectable now s target.iface prefix router hop sent meant well;
    }
message_well now target (messages.Retraction prefix interval) s meant well = well
message_well now target (messages.RetractAll interval) s meant well = well
message_well now target (messages.RouteRequest prefix) s meant well = well
message_well now target messages.DumpRequest s meant well = well
message_well now target (messages.SeqnoRequest prefix router seqno hops) s meant well = well

-- What one item keeps of a datagram, all of them keep: each is read in the state that the items before it left.
pub item_by_item : (P : Draft → List Item → Type 0) (now : ℕ) (fits : Fits) →
    ((x : Item) (xs : List Item) (b : Draft) → P b (x ∷ xs) → IfSome (draft_with now fits b (outgoing b.state x)) (λ c. P (without_first xs c) xs)) →
    ((xs : List Item) (b : Draft) → P b xs → P b []) →
    (xs : List Item) (b : Draft) → P b xs → P (drafted now fits xs b) []
item_by_item P now fits one end [] b p = p
item_by_item P now fits one end (x ∷ xs) b p =
    next (draft_with now fits b (outgoing b.state x)) (one x xs b p) (λ c q. item_by_item P now fits one end xs (without_first xs c) q)
  where
    next : (m : Option Draft) → IfSome m (λ c. P (without_first xs c) xs) → ((c : Draft) → P (without_first xs c) xs → P (drafted now fits xs (without_first xs c)) []) →
        P (option_map_or (λ c. drafted now fits xs (without_first xs c)) m b) []
    next None q more = end (x ∷ xs) b p
    next (Some c) q more = more c q

-- a well-formed state with some of its items
abbrev pub IsWellWith : Draft → List Item → Type 0
IsWellWith b xs = IsWellFormed b.state × (All HasHops xs × (length xs ≤ 4096))

first_well : (xs : List Item) (b : Draft) → IsWellFormed b.state → All HasHops xs → length xs ≤ 4096 → IsWellFormed (without_first xs b).state
first_well xs b well hops few = record {
  tables = pending_tables b.state (record b.state.pending { items = xs }) (record { few = few; hops = hops; dropped = well.tables.pending.dropped }) well.tables;
  selections = well.selections;
}

left_out_well : (s : State) → IsWellFormed s → IsWellFormed (left_out_more s)
left_out_well s well = record { tables = left_out_tables s (counted s.left_out 1) (omega arith) well.tables; selections = well.selections }

pub drafted_well : (now : ℕ) (fits : Fits) (b : Draft) (out : Outgoing) → IsMeaning b.state out → IsWellFormed b.state → IfSome (draft_with now fits b out) (λ c. IsWellFormed c.state)
unfolding draft_with
drafted_well now fits b outgoings.Nothing meant well = well
drafted_well now fits b outgoings.LeftOut meant well = left_out_well b.state well
drafted_well now fits b (outgoings.Message target m) meant well =
    if_some (λ c. IsWellFormed c.state) (goes_to b.target target && fits target b.messages m) (with_message now b target m) (message_well now target m b.state meant well)

some_with : (xs : List Item) (m : Option Draft) → IfSome m (λ c. IsWellFormed c.state) → All HasHops xs → length xs ≤ 4096 → IfSome m (λ c. IsWellWith (without_first xs c) xs)
some_with xs None p hops few = tt
some_with xs (Some c) p hops few = (first_well xs c p hops few, (hops, few))

pub one_well : (now : ℕ) (fits : Fits) (x : Item) (xs : List Item) (b : Draft) → IsWellWith b (x ∷ xs) → IfSome (draft_with now fits b (outgoing b.state x)) (λ c. IsWellWith (without_first xs c) xs)
one_well now fits x xs b p =
    some_with xs (draft_with now fits b (outgoing b.state x)) (drafted_well now fits b (outgoing b.state x) (item_meant b.state x) p.0)
    (All-tail HasHops x xs p.1.0) (omega (arith, p.1.1))

pub end_well : (xs : List Item) (b : Draft) → IsWellWith b xs → IsWellWith b []
end_well xs b p = (p.0, (All-nil HasHops, omega arith))

pub sending_well : SendingKeepsWellFormed
unfolding next_datagram
sending_well now fits s well =
    (item_by_item IsWellWith now fits (one_well now fits) end_well s.pending.items
    (record { state = s; target = None; messages = [] }) (well, (well.tables.pending.hops, well.tables.pending.few))).0
