-- A message keeps all selections current that changes no pair of a source, or after which the selection of its prefix is current.
use Rattle.std.specs.Prelude.{◌≡◌, ℕ, Bool, true, false, cond, ◌&&◌, nat_lt, [], ◌∷◌, slice_set, Option, Some, None}
use Rattle.std.specs.List.{filter}
use Rattle.std.specs.Option.{option_map, option_map_or}
use Rattle.std.specs.declared.cmp.Ordering.{Ordering}
use Rattle.std.specs.declared.cmp.Ordering.TheVariants.{Less, Equal, Greater}
use Rattle.std.specs.Ordering.{eq_by_cmp, is_eq, ordering_then}
use Rattle.std.proofs.Common.{refl, sym, ◌∙◌, ap, subst}
use Rattle.std.proofs.lemmas.Bool.{and_left, and_right}
use Rattle.babel_value.specs.declared.distances.Distance.{Distance}
use Rattle.babel_value.specs.declared.keys.Peer.{Peer}
use Rattle.babel_value.specs.declared.keys.Source.{Source}
use Rattle.babel_value.specs.Orders.{octets_cmp, prefix_cmp}
use Rattle.babel_value.specs.Prefixes.{PrefixValue}
use Rattle.babel_value.proofs.OrderLaws.{prefix_exact, source_exact}
use Rattle.babel_value.proofs.Orderings.{equal}
use Rattle.babel_message.specs.declared.messages.Message.{Message}
use Rattle.babel_message.specs.declared.messages.Message.TheVariants as messages
use Rattle.babel_table.specs.Firsts.{first_of}
use Rattle.babel_route.specs.Currency.{is_current}
use Rattle.babel_sources.specs.Distances.{improves_on, better_pair, is_feasible}
use Rattle.babel_choice.specs.Routes.{Route, RouteEntries}
use Rattle.babel_choice.specs.Choices.{is_of, routes_of, source_of, is_candidate, route_metric, preference, peer_before, selection_of}
use Rattle.babel_route.specs.Selections.{RoutesValue, IsCurrent, selection_at, choice_at}
use Rattle.babel_sources.specs.Sources.{Sources, pair_of, lowered}
use Rattle.babel_sources.proofs.PairLemmas.{pair_lowered}
use Rattle.babel_route.proofs.CurrencyLemmas.{same_selection}
use Rattle.babel_state.specs.declared.interfaces.InterfaceEntry.{InterfaceEntry}
use Rattle.babel_state.specs.declared.items.Target.{Target}
use Rattle.babel_state.specs.State.{State, interface_at, announces, cost_at, with_interface}
use Rattle.babel_state.specs.NextDatagram.{next_hello, after_message}
use Rattle.babel_state.specs.CurrentSelections.{IsCurrentAt, AreCurrent}
use Rattle.babel_state.specs.StepLaws.{known_of}
use Rattle.babel_state.proofs.DatagramsSent.{costs_kept, announces_kept}
use Rattle.babel_state.proofs.SendingLaws.{message_known}
use Rattle.babel_state.proofs.StayingCurrent.{routes_kept}
use Rattle.babel_speaker.specs.SentMessages.{changes_a_pair, named_prefix, is_named_current}

-- ---- pairs that stay

-- An Update leaves the pairs of other prefixes, and all pairs if it's no better than that of its source.
unchanged_pair : (now : ℕ) (source other : Source) (sent : Distance) (sources : Sources) →
    (eq_by_cmp prefix_cmp other.prefix source.prefix && improves_on (pair_of source sources) sent) ≡ false →
    pair_of other (lowered now source sent sources) ≡ pair_of other sources
unchanged_pair now source other sent sources stays =
    pair_lowered now source other sent sources ∙ by (prefix_cmp other.prefix source.prefix) refl stays
  where
    kept : (m : Option Distance) → improves_on m sent ≡ false → Some (better_pair m sent) ≡ m
    kept None worse = cc
    kept (Some pair) worse = rw worse refl

    same : (b : Bool) → prefix_cmp other.prefix source.prefix ≡ Equal → is_eq (octets_cmp other.router source.router) ≡ b → improves_on (pair_of source sources) sent ≡ false →
        cond b (Some (better_pair (pair_of source sources) sent)) (pair_of other sources) ≡ pair_of other sources
    same true prefix router worse =
        kept (pair_of source sources) worse
        ∙ ap (λ x. pair_of x sources) (sym (source_exact other source (ap (λ o. ordering_then o (octets_cmp other.router source.router)) prefix ∙ equal (octets_cmp other.router source.router) router)))
    same false prefix router worse = refl

    by : (o : Ordering) → prefix_cmp other.prefix source.prefix ≡ o → (is_eq o && improves_on (pair_of source sources) sent) ≡ false →
        cond (is_eq (ordering_then o (octets_cmp other.router source.router))) (Some (better_pair (pair_of source sources) sent)) (pair_of other sources) ≡ pair_of other sources
    by Less prefix worse = refl
    by Equal prefix worse = same (is_eq (octets_cmp other.router source.router)) prefix refl worse
    by Greater prefix worse = refl

-- ---- selections by the pairs of their prefix

-- Two tests that agree on the routes of a prefix keep the same of them.
same_of : (prefix : PrefixValue) (one other : Route → Bool) → ((r : Route) → is_of prefix r ≡ true → one r ≡ other r) → (rs : RouteEntries) →
    filter one (routes_of prefix rs) ≡ filter other (routes_of prefix rs)
same_of prefix one other same [] = refl
same_of prefix one other same (r ∷ rs) = by (is_of prefix r) refl (same_of prefix one other same rs)
  where
    by : (b : Bool) → is_of prefix r ≡ b → filter one (routes_of prefix rs) ≡ filter other (routes_of prefix rs) →
        filter one (cond b (r ∷ routes_of prefix rs) (routes_of prefix rs)) ≡ filter other (cond b (r ∷ routes_of prefix rs) (routes_of prefix rs))
    by true is rest = λ i. cond (same r is i) (r ∷ rest i) (rest i)
    by false is rest = rest

abbrev ArePairsKept : PrefixValue → Sources → Sources → Type 0
ArePairsKept prefix sources others = (source : Source) → eq_by_cmp prefix_cmp source.prefix prefix ≡ true → pair_of source others ≡ pair_of source sources

with_pairs : (sources others : Sources) (cost : Peer → ℕ) (prefix : PrefixValue) (local : Bool) (routes : RoutesValue) →
    ArePairsKept prefix sources others → IsCurrent sources cost prefix local routes → IsCurrent others cost prefix local routes
with_pairs sources others cost prefix true routes kept current = current
with_pairs sources others cost prefix false routes kept current =
    current
    ∙ ap (λ rs. option_map selection_of (first_of (preference cost (peer_before (selection_at prefix routes))) rs))
    (same_of prefix (is_candidate sources cost) (is_candidate others cost)
    (λ r is. ap (λ pair. is_feasible pair r.1.distance && nat_lt (route_metric cost r) 65535) (sym (kept (source_of r) is))) routes.entries)

-- What changes neither what is known nor a pair of the prefix keeps its selection current.
same_current : (s t : State) → known_of t ≡ known_of s → (p : PrefixValue) → ArePairsKept p s.sources t.sources → IsCurrentAt p s → IsCurrentAt p t
same_current s t known p pairs current =
    subst (λ cost. IsCurrent t.sources cost p (announces p t) t.routes) (sym (costs_kept s t known))
    (subst (λ local. IsCurrent t.sources (cost_at s) p local t.routes) (sym (announces_kept s t known p))
    (subst (IsCurrent t.sources (cost_at s) p (announces p s)) (sym (routes_kept s t known))
    (with_pairs s.sources t.sources (cost_at s) p (announces p s) s.routes pairs current)))

-- ---- a message that is sent

hello_sources : (iface : ℕ) (s : State) → (with_interface iface next_hello s).sources ≡ s.sources
hello_sources iface s = by (interface_at iface s)
  where
    by : (m : Option InterfaceEntry) → (option_map_or (λ i. record s { interfaces = slice_set s.interfaces iface (next_hello i) }) m s).sources ≡ s.sources
    by None = refl
    by (Some i) = refl

-- The message is an Update of the prefix.
abbrev names : PrefixValue → Message → Bool
names prefix m = option_map_or (λ named. eq_by_cmp prefix_cmp prefix named) (named_prefix m) false

same_pairs : (now : ℕ) (target : Target) (m : Message) (s : State) (source : Source) → (names source.prefix m && changes_a_pair m s) ≡ false →
    pair_of source (after_message now target m s).sources ≡ pair_of source s.sources
unfolding after_message
same_pairs now target (messages.AckRequest opaque interval) s source stays = refl
same_pairs now target (messages.Ack opaque) s source stays = refl
same_pairs now target (messages.Hello unicast seqno interval) s source stays = ap (pair_of source) (hello_sources target.iface s)
same_pairs now target (messages.Ihu to rxcost interval) s source stays = refl
same_pairs now target (messages.Update prefix router next_hop seqno metric interval) s source stays =
    unchanged_pair now (record { prefix = prefix; router = router }) source (record { seqno = seqno; metric = metric }) s.sources stays
same_pairs now target (messages.Retraction prefix interval) s source stays = refl
same_pairs now target (messages.RetractAll interval) s source stays = refl
same_pairs now target (messages.RouteRequest prefix) s source stays = refl
same_pairs now target messages.DumpRequest s source stays = refl
same_pairs now target (messages.SeqnoRequest prefix router seqno hops) s source stays = refl

-- A message that changes no pair keeps all selections current.
pub sent_current : (now : ℕ) (target : Target) (m : Message) (s t : State) → t ≡ after_message now target m s → changes_a_pair m s ≡ false → AreCurrent s → AreCurrent t
sent_current now target m s t is worse current =
    subst AreCurrent (sym is)
    (λ p. same_current s (after_message now target m s) (message_known now target m s) p
    (λ source at. same_pairs now target m s source (and_right (names source.prefix m) (changes_a_pair m s) worse)) (current p))

-- So does one after which the selection of its prefix is current.
pub sent_but_current : (now : ℕ) (target : Target) (m : Message) (s t : State) → t ≡ after_message now target m s → is_named_current m t ≡ true → AreCurrent s → AreCurrent t
sent_but_current now target m s t is named current =
    subst AreCurrent (sym is) (λ p. by p (named_prefix m) refl (subst (λ k. is_named_current m k ≡ true) is named))
  where
    after : State
    after = after_message now target m s

    stays : (p : PrefixValue) → names p m ≡ false → IsCurrentAt p after
    stays p other =
        same_current s after (message_known now target m s) p
        (λ source at. same_pairs now target m s source
        (and_left (names source.prefix m) (changes_a_pair m s) (ap (λ q. names q m) (prefix_exact source.prefix p (equal (prefix_cmp source.prefix p) at)) ∙ other))) (current p)

    of : (p named : PrefixValue) (b : Bool) → eq_by_cmp prefix_cmp p named ≡ b → named_prefix m ≡ Some named →
        is_current after.sources (cost_at after) named (announces named after) after.routes ≡ true → IsCurrentAt p after
    of p named true here at current =
        subst (λ q. IsCurrentAt q after) (sym (prefix_exact p named (equal (prefix_cmp p named) here)))
        (same_selection (selection_at named after.routes) (choice_at after.sources (cost_at after) named (announces named after) after.routes) current)
    of p named false here at current = stays p (ap (λ m. option_map_or (λ q. eq_by_cmp prefix_cmp p q) m false) at ∙ here)

    by : (p : PrefixValue) (found : Option PrefixValue) → named_prefix m ≡ found →
        option_map_or (λ q. is_current after.sources (cost_at after) q (announces q after) after.routes) found true ≡ true → IsCurrentAt p after
    by p None at all = stays p (ap (λ m. option_map_or (λ q. eq_by_cmp prefix_cmp p q) m false) at)
    by p (Some named) at current = of p named (eq_by_cmp prefix_cmp p named) refl at current
