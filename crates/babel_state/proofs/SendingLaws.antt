-- What sending keeps, and by what it lowers sources.
use Rattle.std.specs.Prelude.{◌≡◌, ℕ, Bool, true, false, cond, ◌&&◌, zero, suc, slice_get, slice_set, List, [], ◌∷◌, ◌++◌, map, Option, Some, None, IfSome, if◌then◌else◌}
use Rattle.std.specs.List.{filter}
use Rattle.std.specs.Option.{option_map_or}
use Rattle.std.specs.Ordering.{eq_by_cmp}
use Rattle.std.proofs.Common.{refl, sym, ◌∙◌, ap, append_assoc}
use Rattle.std.proofs.lemmas.List.{append-nil}
use Rattle.std.proofs.lemmas.Option.{same_Some, none-some}
use Rattle.std.proofs.lemmas.List.Elements.{filter-append}
use Rattle.babel_value.specs.declared.distances.Distance.{Distance}
use Rattle.babel_value.specs.declared.keys.Source.{Source}
use Rattle.babel_value.specs.Orders.{source_cmp}
use Rattle.babel_value.proofs.OrderLaws.{source_exact}
use Rattle.babel_value.specs.Prefixes.{PrefixValue}
use Rattle.babel_value.proofs.Orderings.{equal}
use Rattle.babel_message.specs.declared.messages.Message.{Message}
use Rattle.babel_message.specs.declared.messages.Message.TheVariants as messages
use Rattle.babel_sources.specs.Distances.{better_pair}
use Rattle.babel_sources.specs.Sources.{Sources, pair_of, lowered}
use Rattle.babel_sources.proofs.PairLemmas.{pair_lowered}
use Rattle.babel_state.specs.declared.interfaces.InterfaceEntry.{InterfaceEntry}
use Rattle.babel_state.specs.declared.items.Item.{Item}
use Rattle.babel_state.specs.declared.items.Outgoing.{Outgoing}
use Rattle.babel_state.specs.declared.items.Outgoing.TheVariants as outgoings
use Rattle.babel_state.specs.declared.items.Target.{Target}
use Rattle.babel_state.specs.State.{State, interface_at, with_interface, pair_at}
use Rattle.babel_state.specs.OutgoingMessages.{outgoing}
use Rattle.babel_state.specs.NextDatagram.{Fits, Draft, next_hello, after_message, with_message, goes_to, draft_with, without_first, drafted, next_datagram}
use Rattle.babel_state.specs.Seen.{UpdateValue, update_of, updates_among, is_of_source, all_lowered}
use Rattle.babel_state.specs.StepLaws.{settings_of, known_of, SendingKeepsKnown, SendingLowersSources}

-- ---- every item

pub if_some : {X : Type 0} (P : X → Type 0) (b : Bool) (x : X) → P x → IfSome (if b then Some x else None) P
if_some P true x p = p
if_some P false x p = tt

-- What one item keeps of a datagram, all of them keep.
pub along : (P : Draft → Type 0) (now : ℕ) (fits : Fits) →
    ((b : Draft) (advertised : Outgoing) → P b → IfSome (draft_with now fits b advertised) P) →
    ((xs : List Item) (b : Draft) → P b → P (without_first xs b)) →
    (xs : List Item) (b : Draft) → P b → P (drafted now fits xs b)
along P now fits one rest [] b p = p
along P now fits one rest (x ∷ xs) b p =
    next (draft_with now fits b (outgoing b.state x)) (one b (outgoing b.state x) p) (λ c q. along P now fits one rest xs (without_first xs c) (rest xs c q))
  where
    next : (m : Option Draft) → IfSome m P → ((c : Draft) → P c → P (drafted now fits xs (without_first xs c))) → P (option_map_or (λ c. drafted now fits xs (without_first xs c)) m b)
    next None q more = p
    next (Some c) q more = more c q

-- ---- what is known

pub set_settings : (is : List InterfaceEntry) (k : ℕ) (v old : InterfaceEntry) → slice_get is k ≡ Some old → settings_of v ≡ settings_of old → map settings_of (slice_set is k v) ≡ map settings_of is
set_settings [] k v old at same = absurd (none-some old at)
set_settings (i ∷ is) zero v old at same = ap (λ x. x ∷ map settings_of is) (same ∙ ap settings_of (sym (same_Some i old at)))
set_settings (i ∷ is) (suc k) v old at same = ap (λ xs. settings_of i ∷ xs) (set_settings is k v old at same)

hello_known : (iface : ℕ) (s : State) → known_of (with_interface iface next_hello s) ≡ known_of s
unfolding known_of
hello_known iface s = by (interface_at iface s) refl
  where
    by : (m : Option InterfaceEntry) → interface_at iface s ≡ m → known_of (option_map_or (λ i. record s { interfaces = slice_set s.interfaces iface (next_hello i) }) m s) ≡ known_of s
    by None at = refl
    by (Some i) at = λ k. record {
      router = s.router;
      collects = s.collects;
      seqno = s.seqno;
      raises = s.raises;
      announced = s.announced;
      interfaces = set_settings s.interfaces iface (next_hello i) i at refl k;
      neighbours = s.neighbours;
      routes = s.routes;
      requests = s.requests;
    }

pub message_known : (now : ℕ) (target : Target) (m : Message) (s : State) → known_of (after_message now target m s) ≡ known_of s
unfolding after_message known_of
message_known now target (messages.AckRequest opaque interval) s = refl
message_known now target (messages.Ack opaque) s = refl
message_known now target (messages.Hello unicast seqno interval) s = hello_known target.iface s
message_known now target (messages.Ihu to rxcost interval) s = refl
message_known now target (messages.Update prefix router next_hop seqno metric interval) s = refl
message_known now target (messages.Retraction prefix interval) s = refl
message_known now target (messages.RetractAll interval) s = refl
message_known now target (messages.RouteRequest prefix) s = refl
message_known now target messages.DumpRequest s = refl
message_known now target (messages.SeqnoRequest prefix router seqno hops) s = refl

left_out_known : (s : State) (n : ℕ) → known_of (record s { left_out = n }) ≡ known_of s
unfolding known_of
left_out_known s n = refl

pub one_known : (s : State) (now : ℕ) (fits : Fits) (b : Draft) (advertised : Outgoing) → known_of b.state ≡ known_of s → IfSome (draft_with now fits b advertised) (λ c. known_of c.state ≡ known_of s)
unfolding draft_with
one_known s now fits b outgoings.Nothing p = p
one_known s now fits b outgoings.LeftOut p = left_out_known b.state _ ∙ p
one_known s now fits b (outgoings.Message target m) p =
    if_some (λ c. known_of c.state ≡ known_of s) (goes_to b.target target && fits target b.messages m) (with_message now b target m) (message_known now target m b.state ∙ p)

pub rest_known : (s : State) (xs : List Item) (b : Draft) → known_of b.state ≡ known_of s → known_of (without_first xs b).state ≡ known_of s
unfolding known_of
rest_known s xs b p = p

pub sending_known : SendingKeepsKnown
unfolding next_datagram
sending_known now fits s =
    along (λ b. known_of b.state ≡ known_of s) now fits (one_known s now fits) (rest_known s) s.pending.items
    (record { state = s; target = None; messages = [] }) refl

-- ---- sources

one_lowered : (now : ℕ) (other : Source) (u : UpdateValue) (sources : Sources) →
    pair_of other (lowered now (record { prefix = u.prefix; router = u.router }) u.distance sources)
    ≡ all_lowered (filter (is_of_source other.prefix other.router) (u ∷ [])) (pair_of other sources)
one_lowered now other u sources =
    let source : Source = record { prefix = u.prefix; router = u.router } in
    pair_lowered now source other u.distance sources ∙ by (eq_by_cmp source_cmp other source) refl
  where
    by : (b : Bool) → eq_by_cmp source_cmp other (record { prefix = u.prefix; router = u.router }) ≡ b →
        cond b (Some (better_pair (pair_of (record { prefix = u.prefix; router = u.router }) sources) u.distance)) (pair_of other sources)
        ≡ all_lowered (cond b (u ∷ []) []) (pair_of other sources)
    by true e =
        ap (λ k. Some (better_pair (pair_of k sources) u.distance))
        (sym (source_exact other (record { prefix = u.prefix; router = u.router }) (equal _ e)))
    by false e = refl

interface_pair : (prefix : PrefixValue) (router : List ℕ) (iface : ℕ) (change : InterfaceEntry → InterfaceEntry) (s : State) →
    pair_at prefix router (with_interface iface change s) ≡ pair_at prefix router s
interface_pair prefix router iface change s = by (interface_at iface s)
  where
    by : (m : Option InterfaceEntry) → pair_at prefix router (option_map_or (λ i. record s { interfaces = slice_set s.interfaces iface (change i) }) m s) ≡ pair_at prefix router s
    by None = refl
    by (Some i) = refl

message_pair : (now : ℕ) (target : Target) (m : Message) (s : State) (prefix : PrefixValue) (router : List ℕ) →
    pair_at prefix router (after_message now target m s) ≡ all_lowered (filter (is_of_source prefix router) (update_of m)) (pair_at prefix router s)
unfolding after_message
message_pair now target (messages.AckRequest opaque interval) s prefix router = refl
message_pair now target (messages.Ack opaque) s prefix router = refl
message_pair now target (messages.Hello unicast seqno interval) s prefix router = interface_pair prefix router target.iface next_hello s
message_pair now target (messages.Ihu to rxcost interval) s prefix router = refl
message_pair now target (messages.Update p r next_hop seqno metric interval) s prefix router =
    one_lowered now (record { prefix = prefix; router = router })
    (record { prefix = p; router = r; distance = record { seqno = seqno; metric = metric }; next_hop = next_hop }) s.sources
message_pair now target (messages.Retraction p interval) s prefix router = refl
message_pair now target (messages.RetractAll interval) s prefix router = refl
message_pair now target (messages.RouteRequest p) s prefix router = refl
message_pair now target messages.DumpRequest s prefix router = refl
message_pair now target (messages.SeqnoRequest p r seqno hops) s prefix router = refl

lowered_append : (us vs : List UpdateValue) (pair : Option Distance) → all_lowered (us ++ vs) pair ≡ all_lowered vs (all_lowered us pair)
lowered_append [] vs pair = refl
lowered_append (u ∷ us) vs pair = lowered_append us vs (Some (better_pair pair u.distance))

pub updates_last : (ms : List Message) (m : Message) → updates_among (ms ++ m ∷ []) ≡ updates_among ms ++ update_of m
updates_last [] m = append-nil (update_of m)
updates_last (x ∷ ms) m =
    ap (λ us. update_of x ++ us) (updates_last ms m) ∙ sym (append_assoc (update_of x) (updates_among ms) (update_of m))

abbrev IsLowered : State → PrefixValue → List ℕ → Draft → Type 0
IsLowered s prefix router b =
    pair_at prefix router b.state ≡ all_lowered (filter (is_of_source prefix router) (updates_among b.messages)) (pair_at prefix router s)

with_lowered : (s : State) (prefix : PrefixValue) (router : List ℕ) (now : ℕ) (b : Draft) (target : Target) (m : Message) →
    IsLowered s prefix router b → IsLowered s prefix router (with_message now b target m)
with_lowered s prefix router now b target m p =
    let names : UpdateValue → Bool = is_of_source prefix router in
    let us : List UpdateValue = updates_among b.messages in
    message_pair now target m b.state prefix router
    ∙ ap (all_lowered (filter names (update_of m))) p
    ∙ sym (lowered_append (filter names us) (filter names (update_of m)) (pair_at prefix router s))
    ∙ ap (λ vs. all_lowered vs (pair_at prefix router s)) (sym (filter-append names us (update_of m)))
    ∙ ap (λ vs. all_lowered (filter names vs) (pair_at prefix router s)) (sym (updates_last b.messages m))

one_item_lowered : (s : State) (prefix : PrefixValue) (router : List ℕ) (now : ℕ) (fits : Fits) (b : Draft) (advertised : Outgoing) →
    IsLowered s prefix router b → IfSome (draft_with now fits b advertised) (IsLowered s prefix router)
unfolding draft_with
one_item_lowered s prefix router now fits b outgoings.Nothing p = p
one_item_lowered s prefix router now fits b outgoings.LeftOut p = p
one_item_lowered s prefix router now fits b (outgoings.Message target m) p =
    if_some (IsLowered s prefix router) (goes_to b.target target && fits target b.messages m) (with_message now b target m) (with_lowered s prefix router now b target m p)

pub sending_lowers : SendingLowersSources
unfolding next_datagram
sending_lowers now fits s prefix router =
    along (IsLowered s prefix router) now fits (one_item_lowered s prefix router now fits) (λ xs b p. p) s.pending.items
    (record { state = s; target = None; messages = [] }) refl
