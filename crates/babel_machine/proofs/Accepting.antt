-- Configurations that a network accepts are apart.
use Rattle.std.proofs.Common.{◌≡◌, ◌<◌, ℕ, zero, suc, ◌+◌, Bool, true, false, ◌||◌, cond, List, [], ◌∷◌, ◌++◌, Option, Some, None, option_map, length, nat_lt, flat_map, Contains, slice_get, refl, sym, ap, ◌∙◌, subst, arith}
use Rattle.std.specs.List.{list_any}
use Rattle.std.proofs.lemmas.Bool.{false≢true, false_from_ne_true}
use Rattle.std.proofs.lemmas.Option.{same_Some, none-some, slice_get_within, get_or_from_slice_get}
use Rattle.std.proofs.lemmas.List.Elements.{All-contains}
use Rattle.std.proofs.lemmas.List.Folds.{list_any-append, list_any_at}
use Rattle.std.proofs.lemmas.Map.Views.{tells_apart, list_any-from_Contains}
use Rattle.std.proofs.lemmas.Cmp.{eq_by_cmp_equiv}
use Rattle.babel_value.specs.declared.addresses.Addr.{Addr}
use Rattle.babel_value.proofs.OrderLaws.{addr_exact, addr_total}
use Rattle.babel_state.specs.declared.configs.Config.{Config}
use Rattle.babel_state.specs.Sameness.{is_same_addr, is_same_router}
use Rattle.babel_machine.specs.declared.errors.NetFault.{NetFault}
use Rattle.babel_machine.specs.declared.errors.NetFault.TheVariants.{TooManyNodes, CollectsSources, AddressTwice, RouterIdTwice}
use Rattle.babel_machine.specs.Owners.{owner_of, addresses_of, has_addr}
use Rattle.babel_machine.specs.Acceptance.{first_bad_from, fault_or, net_fault, has_addr_twice, has_router_twice, AcceptedAreApart}
use Rattle.babel_machine.proofs.Membership.{All-from_Contains}
use Rattle.babel_machine.proofs.Picking.{same_router_itself}
use Rattle.babel_machine.proofs.Beginning.{contains_slice_get}

-- both sides of a false `or` are false
or_false : (a b : Bool) → (a || b) ≡ false → (a ≡ false) × (b ≡ false)
or_false true b h = absurd (false≢true (sym h))
or_false false b h = (refl, h)

-- what no element passes, none at an index does
none_at : {X : Type 0} (p : X → Bool) → (xs : List X) (i : ℕ) (x : X) → list_any p xs ≡ false → slice_get xs i ≡ Some x → p x ≡ false
none_at p xs i x none is =
    false_from_ne_true (p x) (λ passes. false≢true (sym none ∙ list_any_at p xs i x (slice_get_within xs i x is) (ap p (get_or_from_slice_get xs i x x is) ∙ passes)))

routers_apart : (configs : List Config) → has_router_twice configs ≡ false → (one other : ℕ) (c d : Config) → slice_get configs one ≡ Some c → slice_get configs other ≡ Some d → c.router_id ≡ d.router_id → one ≡ other
routers_apart [] none one other c d at_one at_other same = absurd (none-some c at_one)
routers_apart (e ∷ es) none zero zero c d at_one at_other same = refl
routers_apart (e ∷ es) none zero (suc n) c d at_one at_other same =
    absurd (false≢true (sym (none_at (λ (x : Config). is_same_router e.router_id x.router_id) es n d (or_false (list_any (λ (x : Config). is_same_router e.router_id x.router_id) es) (has_router_twice es) none).0 at_other) ∙ same_router_itself e.router_id d.router_id (ap (λ (x : Config). x.router_id) (same_Some e c at_one) ∙ same)))
routers_apart (e ∷ es) none (suc n) zero c d at_one at_other same =
    absurd (false≢true (sym (none_at (λ (x : Config). is_same_router e.router_id x.router_id) es n c (or_false (list_any (λ (x : Config). is_same_router e.router_id x.router_id) es) (has_router_twice es) none).0 at_one) ∙ same_router_itself e.router_id c.router_id (ap (λ (x : Config). x.router_id) (same_Some e d at_other) ∙ sym same)))
routers_apart (e ∷ es) none (suc n) (suc m) c d at_one at_other same =
    ap suc (routers_apart es (or_false (list_any (λ (x : Config). is_same_router e.router_id x.router_id) es) (has_router_twice es) none).1 n m c d at_one at_other same)

-- no address is in both parts of a list that has none twice
record ArePartsApart (xs ys : List Addr) : Type 0 where
  later : has_addr_twice ys ≡ false
  apart : (addr : Addr) → has_addr addr xs ≡ true → has_addr addr ys ≡ true → ⊥

parts_apart : (xs ys : List Addr) → has_addr_twice (xs ++ ys) ≡ false → ArePartsApart xs ys
parts_apart [] ys none = record { later = none; apart = λ addr one other. false≢true one }
parts_apart (x ∷ xs) ys none =
    let rest = parts_apart xs ys (or_false (has_addr x (xs ++ ys)) (has_addr_twice (xs ++ ys)) none).1 in
    record { later = rest.later; apart = λ addr one other. by (has_addr x xs) (has_addr x ys) (sym (list_any-append (is_same_addr x) xs ys) ∙ (or_false (has_addr x (xs ++ ys)) (has_addr_twice (xs ++ ys)) none).0) refl rest.apart addr (is_same_addr addr x) refl one other }
  where
    first : (a b : Bool) → (a || b) ≡ false → has_addr x ys ≡ b → (addr : Addr) → addr ≡ x → has_addr addr ys ≡ true → ⊥
    first a b none is addr same other = false≢true (sym (or_false a b none).1 ∙ sym is ∙ subst (λ z. has_addr z ys ≡ true) same other)

    by : (a b : Bool) → (a || b) ≡ false → has_addr x ys ≡ b → ((addr : Addr) → has_addr addr xs ≡ true → has_addr addr ys ≡ true → ⊥) → (addr : Addr) → (s : Bool) → is_same_addr addr x ≡ s → (s || has_addr addr xs) ≡ true → has_addr addr ys ≡ true → ⊥
    by a b none is more addr true same one other = first a b none is addr (tells_apart addr_exact addr x same) other
    by a b none is more addr false same one other = more addr one other

has_addr_in : (addr : Addr) (addrs : List Addr) → Contains addrs addr → has_addr addr addrs ≡ true
has_addr_in addr addrs there = list_any-from_Contains (eq_by_cmp_equiv addr_total) addr addrs there

-- an address of some node is among those of all
in_some : (configs : List Config) (node : ℕ) (c : Config) (addr : Addr) → slice_get configs node ≡ Some c → has_addr addr (addresses_of c) ≡ true → has_addr addr (flat_map addresses_of configs) ≡ true
in_some [] node c addr is there = absurd (none-some c is)
in_some (e ∷ es) zero c addr is there =
    list_any-append (is_same_addr addr) (addresses_of e) (flat_map addresses_of es) ∙ ap (λ b. b || has_addr addr (flat_map addresses_of es)) (ap (λ (x : Config). has_addr addr (addresses_of x)) (same_Some e c is) ∙ there)
in_some (e ∷ es) (suc n) c addr is there =
    list_any-append (is_same_addr addr) (addresses_of e) (flat_map addresses_of es) ∙ ap (λ b. has_addr addr (addresses_of e) || b) (in_some es n c addr is there) ∙ or_true (has_addr addr (addresses_of e))
  where
    or_true : (b : Bool) → (b || true) ≡ true
    or_true true = refl
    or_true false = refl

owner_is : (configs : List Config) → has_addr_twice (flat_map addresses_of configs) ≡ false → (node : ℕ) (c : Config) (addr : Addr) → slice_get configs node ≡ Some c → has_addr addr (addresses_of c) ≡ true → owner_of configs addr ≡ Some node
owner_is [] none node c addr is there = absurd (none-some c is)
owner_is (e ∷ es) none zero c addr is there =
    ap (λ b. cond b (Some 0) (option_map (λ n. n + 1) (owner_of es addr))) (ap (λ (x : Config). has_addr addr (addresses_of x)) (same_Some e c is) ∙ there)
owner_is (e ∷ es) none (suc n) c addr is there =
    let parts = parts_apart (addresses_of e) (flat_map addresses_of es) none in
    ap (λ b. cond b (Some 0) (option_map (λ n. n + 1) (owner_of es addr))) (false_from_ne_true (has_addr addr (addresses_of e)) (λ one. parts.apart addr one (in_some es n c addr is there)))
    ∙ ap (option_map (λ n. n + 1)) (owner_is es parts.later n c addr is there)
    ∙ ap Some (omega arith)

-- a list without a fault has none of the causes
record HasNoCause (configs : List Config) : Type 0 where
  collects : list_any (λ (c : Config). c.collect) configs ≡ false
  addresses : has_addr_twice (flat_map addresses_of configs) ≡ false
  routers : has_router_twice configs ≡ false

no_cause : (configs : List Config) → net_fault configs ≡ None → HasNoCause configs
no_cause configs h = by (nat_lt 64 (length configs)) (first_bad_from 0 configs) (list_any (λ (c : Config). c.collect) configs) refl (has_addr_twice (flat_map addresses_of configs)) refl (has_router_twice configs) refl h
  where
    by : (many : Bool) (bad : Option NetFault) (collects : Bool) → list_any (λ (c : Config). c.collect) configs ≡ collects → (twice : Bool) → has_addr_twice (flat_map addresses_of configs) ≡ twice → (same : Bool) → has_router_twice configs ≡ same → cond many (Some TooManyNodes) (fault_or bad (cond collects (Some CollectsSources) (cond twice (Some AddressTwice) (cond same (Some RouterIdTwice) None)))) ≡ None → HasNoCause configs
    by true bad collects c twice t same s h = absurd (none-some _ (sym h))
    by false (Some fault) collects c twice t same s h = absurd (none-some _ (sym h))
    by false None true c twice t same s h = absurd (none-some _ (sym h))
    by false None false c true t same s h = absurd (none-some _ (sym h))
    by false None false c false t true s h = absurd (none-some _ (sym h))
    by false None false c false t false s h = record { collects = c; addresses = t; routers = s }

pub accepted_apart : AcceptedAreApart
accepted_apart configs accepted words =
    let none = no_cause configs accepted in
    record {
      addresses = λ node c is. All-from_Contains (λ addr. owner_of configs addr ≡ Some node) (addresses_of c) (λ addr there. owner_is configs none.addresses node c addr is (has_addr_in addr (addresses_of c) there));
      routers = routers_apart configs none.routers;
      collection = λ node c is. none_at (λ (x : Config). x.collect) configs node c none.collects is;
      seqnos = λ node c is. All-contains (λ (x : Config). x.seqno < 65536) configs c words (contains_slice_get configs node c is);
    }
