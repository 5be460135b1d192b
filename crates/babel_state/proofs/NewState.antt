-- A new speaker's state is well formed.
use Rattle.std.specs.Prelude.{◌≡◌, ℕ, ◌+◌, ◌≤◌, Bool, true, false, cond, ◌||◌, not, nat_le, nat_lt, List, [], ◌∷◌, All, IsSome, map, length, Option, Some, None, is_some, if◌then◌else◌, T}
use Rattle.std.specs.List.{list_any}
use Rattle.std.specs.Option.{option_map}
use Rattle.std.specs.FinMap.{find, put, is_sorted}
use Rattle.std.specs.FinMap.Entries.{length-put}
use Rattle.std.proofs.Common.{refl, sym, subst, arith}
use Rattle.std.proofs.lemmas.Bool.{and_parts, or_parts, leb-true, ltb-false, false≢true, not-false}
use Rattle.std.proofs.lemmas.Option.{none-some}
use Rattle.std.proofs.lemmas.List.{length-map}
use Rattle.std.proofs.lemmas.List.Elements.{All-nil, All-cons}
use Rattle.babel_value.specs.declared.addresses.Addr.TheVariants.{V4, V6}
use Rattle.babel_value.specs.declared.addresses.Family.{Family}
use Rattle.babel_value.specs.declared.addresses.Family.TheVariants.{Ipv4, Ipv6}
use Rattle.babel_value.specs.Orders.{prefix_cmp}
use Rattle.babel_value.proofs.OrderLaws.{prefix_total}
use Rattle.babel_value.specs.Prefixes.{PrefixValue}
use Rattle.babel_state.specs.declared.configs.Interface.{Interface}
use Rattle.babel_state.specs.declared.errors.ConfigFault.{ConfigFault}
use Rattle.babel_state.specs.declared.errors.ConfigFault.TheVariants.{ReservedRouterId, InterfaceCount, NominalCost, HelloInterval, Prefixes, InterfaceAddresses}
use Rattle.babel_state.specs.Sameness.{is_same_family}
use Rattle.babel_state.specs.Configs.{is_up_to, lacks_transport, has_global_address, has_long_network, has_foreign_peer, has_bad_addresses, has_bad_cost, has_bad_hello, repeats, has_cause, first_of_causes, config_fault}
use Rattle.babel_state.specs.State.{PrefixSet, gathered}
use Rattle.babel_state.specs.Addresses.{address_of}
use Rattle.babel_state.specs.Calls.{new_interface, first_state}
use Rattle.babel_state.specs.Invariants.{IsUsable, HasCost, HasHops, HasShortWait, IsFinite, NewSpeakersAreWellFormed}
use Rattle.babel_table.proofs.PlaceLemmas.{sorted_put}

-- ---- no cause holds

pub first_head : (current : ConfigFault → Bool) (fault : ConfigFault) (faults : List ConfigFault) → first_of_causes current (fault ∷ faults) ≡ None → (current fault ≡ false) × (first_of_causes current faults ≡ None)
first_head current fault faults is = by (current fault) refl is
  where
    by : (b : Bool) → current fault ≡ b → (if b then Some fault else first_of_causes current faults) ≡ None → (current fault ≡ false) × (first_of_causes current faults ≡ None)
    by true at is = absurd (none-some fault (sym is))
    by false at is = (at, is)

is_there : {A B : Type 0} (f : A → B) (m : Option A) → is_some m ≡ true → IsSome (option_map f m)
is_there f None e = absurd (false≢true e)
is_there f (Some a) e = refl

transport_there : (i : Interface) (family : Family) → not (if is_same_family family Ipv4 then is_some i.ipv4 else is_some i.ipv6) ≡ false → IsSome (address_of family (new_interface i))
transport_there i Ipv4 e = is_there (λ net. V4 net.0) i.ipv4 (not-false (is_some i.ipv4) e)
transport_there i Ipv6 e = is_there V6 i.ipv6 (not-false (is_some i.ipv6) e)

usable : (i : Interface) → has_bad_cost i ≡ false → has_bad_hello i ≡ false → has_bad_addresses i ≡ false → IsUsable (new_interface i)
unfolding has_bad_cost has_bad_hello has_bad_addresses
usable i cost hello addresses =
    let costs = and_parts (nat_le 1 i.cost) (nat_le i.cost 65534) (not-false (is_up_to 65534 i.cost) cost) in
    let hellos = and_parts (nat_le 1 i.hello) (nat_le i.hello 4000) (not-false (is_up_to 4000 i.hello) hello) in
    let a = or_parts (lacks_transport i || has_global_address i || has_long_network i || nat_lt 16 (length i.peers.items)) (has_foreign_peer i) addresses in
    let b = or_parts (lacks_transport i || has_global_address i || has_long_network i) (nat_lt 16 (length i.peers.items)) a.0 in
    let c = or_parts (lacks_transport i || has_global_address i) (has_long_network i) b.0 in
    let d = or_parts (lacks_transport i) (has_global_address i) c.0 in
    record {
      cost = (leb-true 1 i.cost costs.0, leb-true i.cost 65534 costs.1);
      hello = (leb-true 1 i.hello hellos.0, leb-true i.hello 4000 hellos.1);
      transport = transport_there i i.transport d.0;
    }

all_usable : (is : List Interface) → list_any has_bad_cost is ≡ false → list_any has_bad_hello is ≡ false → list_any has_bad_addresses is ≡ false → All IsUsable (map new_interface is)
all_usable [] cost hello addresses = All-nil IsUsable
all_usable (i ∷ is) cost hello addresses =
    let a = or_parts (has_bad_cost i) (list_any has_bad_cost is) cost in
    let b = or_parts (has_bad_hello i) (list_any has_bad_hello is) hello in
    let c = or_parts (has_bad_addresses i) (list_any has_bad_addresses is) addresses in
    All-cons IsUsable (new_interface i) (map new_interface is) (usable i a.0 b.0 c.0) (all_usable is a.1 b.1 c.1)

-- ---- the announced prefixes

gathered_in_order : (ps : List PrefixValue) (es : PrefixSet) → is_sorted prefix_cmp es ≡ true → is_sorted prefix_cmp (gathered ps es) ≡ true
gathered_in_order [] es sorted = sorted
gathered_in_order (p ∷ ps) es sorted = gathered_in_order ps (put prefix_cmp p tt es) (sorted_put prefix_cmp prefix_total p tt es sorted)

to_hold : (b : Bool) → b ≡ true → T b
to_hold b e = subst T (sym e) tt

put_one : (p : PrefixValue) (es : PrefixSet) → is_sorted prefix_cmp es ≡ true → length (put prefix_cmp p tt es) ≤ length es + 1
put_one p es sorted = by (is_some (find prefix_cmp p es)) (length-put prefix_cmp prefix_total p tt es (to_hold (is_sorted prefix_cmp es) sorted))
  where
    by : (b : Bool) → length (put prefix_cmp p tt es) ≡ cond b (length es) (length es + 1) → length (put prefix_cmp p tt es) ≤ length es + 1
    by true is = omega (arith, is)
    by false is = omega (arith, is)

gathered_few : (ps : List PrefixValue) (es : PrefixSet) → is_sorted prefix_cmp es ≡ true → length (gathered ps es) ≤ length ps + length es
gathered_few [] es sorted = omega arith
gathered_few (p ∷ ps) es sorted =
    omega (arith, gathered_few ps (put prefix_cmp p tt es) (sorted_put prefix_cmp prefix_total p tt es sorted), put_one p es sorted)

pub few_of : (n bound : ℕ) → is_up_to bound n ≡ true → n ≤ bound
few_of n bound e = leb-true n bound (and_parts (nat_le 1 n) (nat_le n bound) e).1

new_length : (is : List Interface) → length (map new_interface is) ≡ length is
new_length is = length-map is new_interface

pub new_well : NewSpeakersAreWellFormed
unfolding first_state config_fault
new_well c small none =
    let a = first_head (has_cause c) ReservedRouterId (InterfaceCount ∷ NominalCost ∷ HelloInterval ∷ Prefixes ∷ InterfaceAddresses ∷ []) none in
    let b = first_head (has_cause c) InterfaceCount (NominalCost ∷ HelloInterval ∷ Prefixes ∷ InterfaceAddresses ∷ []) a.1 in
    let d = first_head (has_cause c) NominalCost (HelloInterval ∷ Prefixes ∷ InterfaceAddresses ∷ []) b.1 in
    let e = first_head (has_cause c) HelloInterval (Prefixes ∷ InterfaceAddresses ∷ []) d.1 in
    let f = first_head (has_cause c) Prefixes (InterfaceAddresses ∷ []) e.1 in
    let g = first_head (has_cause c) InterfaceAddresses [] f.1 in
    let count : length c.interfaces.items ≤ 8 = few_of (length c.interfaces.items) 8 (not-false (is_up_to 8 (length c.interfaces.items)) b.0) in
    let prefixes : length c.prefixes.items ≤ 64 = omega (arith, ltb-false 64 (length c.prefixes.items) (or_parts (nat_lt 64 (length c.prefixes.items)) (repeats c.prefixes.items) f.0).0) in
    record {
      tables = record {
        interfaces = record { few = subst (λ n. n ≤ 8) (sym (new_length c.interfaces.items)) count; usable = all_usable c.interfaces.items d.0 e.0 g.0 };
        neighbours = record { few = omega arith; costs = All-nil HasCost; in_order = refl };
        announced = record { few = omega (arith, gathered_few c.prefixes.items [] refl, prefixes); in_order = gathered_in_order c.prefixes.items [] refl };
        sources = record { few = omega arith; finite = All-nil IsFinite; in_order = refl };
        routes = record { entries_in_order = refl; selections_in_order = refl };
        requests = record { few = omega arith; waits = All-nil HasShortWait; in_order = refl };
        pending = record { few = omega arith; hops = All-nil HasHops; dropped = omega arith };
        seqno = small;
        raises = omega arith;
        left_out = omega arith;
      };
      selections = λ prefix route at. absurd (none-some route at);
    }
