-- Addresses that lists share, list by list.
use Rattle.std.proofs.Common.{◌≡◌, ◌+◌, ℕ, Bool, true, false, ◌||◌, List, [], ◌∷◌, ◌++◌, Option, Some, None, flat_map, cond, option_map, refl, sym, ap, ◌∙◌, arith}
use Rattle.std.specs.List.{list_any}
use Rattle.std.proofs.lemmas.List.Folds.{list_any-append}
use Rattle.std.specs.Cmp.{eq_by_cmp_equiv}
use Rattle.babel_value.specs.declared.addresses.Addr.{Addr}
use Rattle.babel_value.specs.declared.addresses.Family.TheVariants.{Ipv4, Ipv6}
use Rattle.babel_value.specs.declared.addresses.Addr.TheVariants.{V4, V6}
use Rattle.babel_value.proofs.OrderLaws.{addr_total}
use Rattle.babel_state.specs.declared.configs.Config.{Config}
use Rattle.babel_state.specs.declared.configs.Interface.{Interface}
use Rattle.babel_state.specs.Sameness.{is_same_addr}
use Rattle.babel_state.specs.Addresses.{address_of}
use Rattle.babel_state.specs.Calls.{new_interface}
use Rattle.babel_machine.specs.Owners.{has_addr, interface_addresses, addresses_of, listed, owner_of}
use Rattle.babel_machine.specs.Acceptance.{has_addr_twice}
use Rattle.babel_owners.specs.Shared.{share}

or_assoc : (a b c : Bool) → (a || (b || c)) ≡ ((a || b) || c)
or_assoc true b c = refl
or_assoc false b c = refl

or_false : (a : Bool) → (a || false) ≡ a
or_false true = refl
or_false false = refl

-- four tests in another order
swapped : (a b c d : Bool) → ((a || b) || (c || d)) ≡ ((a || c) || (b || d))
swapped true b c d = refl
swapped false true true d = refl
swapped false true false d = refl
swapped false false true d = refl
swapped false false false d = refl

pub has_append : (addr : Addr) (xs ys : List Addr) → has_addr addr (xs ++ ys) ≡ (has_addr addr xs || has_addr addr ys)
has_append addr xs ys = list_any-append (is_same_addr addr) xs ys

pub share_append : (xs ys zs : List Addr) → share (xs ++ ys) zs ≡ (share xs zs || share ys zs)
share_append xs ys zs = list_any-append (λ addr. has_addr addr zs) xs ys

share_none : (xs : List Addr) → share xs [] ≡ false
share_none [] = refl
share_none (x ∷ xs) = share_none xs

share_append_right : (xs ys zs : List Addr) → share xs (ys ++ zs) ≡ (share xs ys || share xs zs)
share_append_right [] ys zs = refl
share_append_right (x ∷ xs) ys zs =
    ap (λ b. b || share xs (ys ++ zs)) (has_append x ys zs)
    ∙ ap (λ b. (has_addr x ys || has_addr x zs) || b) (share_append_right xs ys zs)
    ∙ swapped (has_addr x ys) (has_addr x zs) (share xs ys) (share xs zs)

-- with each of some lists
pub share_each : {X : Type 0} (f : X → List Addr) (xs : List Addr) → (ys : List X) → list_any (λ y. share xs (f y)) ys ≡ share xs (flat_map f ys)
share_each f xs [] = sym (share_none xs)
share_each f xs (y ∷ ys) = ap (λ b. share xs (f y) || b) (share_each f xs ys) ∙ sym (share_append_right xs (f y) (flat_map f ys))

pub each_share : {X : Type 0} (f : X → List Addr) (zs : List Addr) → (xs : List X) → list_any (λ x. share (f x) zs) xs ≡ share (flat_map f xs) zs
each_share f zs [] = refl
each_share f zs (x ∷ xs) = ap (λ b. share (f x) zs || b) (each_share f zs xs) ∙ sym (share_append (f x) (flat_map f xs) zs)

-- ---- twice

pub twice_append : (xs ys : List Addr) → has_addr_twice (xs ++ ys) ≡ ((has_addr_twice xs || share xs ys) || has_addr_twice ys)
twice_append [] ys = refl
twice_append (x ∷ xs) ys =
    ap (λ b. b || has_addr_twice (xs ++ ys)) (has_append x xs ys)
    ∙ ap (λ b. (has_addr x xs || has_addr x ys) || b) (twice_append xs ys)
    ∙ six (has_addr x xs) (has_addr x ys) (has_addr_twice xs) (share xs ys) (has_addr_twice ys)
  where
    six : (a b c d e : Bool) → ((a || b) || ((c || d) || e)) ≡ (((a || c) || (b || d)) || e)
    six a b c d e =
        or_assoc (a || b) (c || d) e ∙ ap (λ z. z || e) (swapped a b c d)

-- an interface has no address twice: one is of IPv4, the other of IPv6
pub one_interface : (i : Interface) → has_addr_twice (interface_addresses i) ≡ false
one_interface i = by i.ipv4 i.ipv6
  where
    by : (o4 : Option (List ℕ × ℕ)) (o6 : Option (List ℕ)) → has_addr_twice (listed (option_map (λ net. V4 net.0) o4) ++ listed (option_map V6 o6)) ≡ false
    by None None = refl
    by None (Some b) = refl
    by (Some a) None = refl
    by (Some a) (Some b) = refl

pub first_interface : (i : Interface) (is : List Interface) → has_addr_twice (flat_map interface_addresses (i ∷ is)) ≡ (share (interface_addresses i) (flat_map interface_addresses is) || has_addr_twice (flat_map interface_addresses is))
first_interface i is =
    twice_append (interface_addresses i) (flat_map interface_addresses is)
    ∙ ap (λ b. (b || share (interface_addresses i) (flat_map interface_addresses is)) || has_addr_twice (flat_map interface_addresses is)) (one_interface i)

pub first_node : (c : Config) (cs : List Config) → has_addr_twice (flat_map addresses_of (c ∷ cs)) ≡ ((has_addr_twice (addresses_of c) || share (addresses_of c) (flat_map addresses_of cs)) || has_addr_twice (flat_map addresses_of cs))
first_node c cs = twice_append (addresses_of c) (flat_map addresses_of cs)

-- ---- owners

-- the addresses of a node come first
pub owner_before : (i : ℕ) (c : Config) (cs : List Config) (addr : Addr) → cond (has_addr addr (addresses_of c)) (Some i) (option_map (λ n. n + (i + 1)) (owner_of cs addr)) ≡ option_map (λ n. n + i) (owner_of (c ∷ cs) addr)
owner_before i c cs addr = by (has_addr addr (addresses_of c)) (owner_of cs addr)
  where
    zero_first : (k : ℕ) → k ≡ 0 + k
    zero_first k = omega arith

    moved : (n k : ℕ) → n + (k + 1) ≡ (n + 1) + k
    moved n k = omega arith

    by : (b : Bool) (o : Option ℕ) → cond b (Some i) (option_map (λ n. n + (i + 1)) o) ≡ option_map (λ n. n + i) (cond b (Some 0) (option_map (λ n. n + 1) o))
    by true o = ap Some (zero_first i)
    by false None = refl
    by false (Some n) = ap Some (moved n i)

-- an address put into the table is among those of the list of it
pub put_listed : (addr one : Addr) (node : ℕ) (o : Option Addr) (before after : Option ℕ) → o ≡ Some addr → after ≡ cond (is_same_addr addr one) (Some node) before → after ≡ cond (has_addr one (listed o)) (Some node) before
put_listed addr one node o before after is put =
    put
    ∙ ap (λ b. cond b (Some node) before) ((eq_by_cmp_equiv addr_total).symm addr one ∙ sym (or_false (is_same_addr one addr)))
    ∙ ap (λ (p : Option Addr). cond (has_addr one (listed p)) (Some node) before) (sym is)

-- the addresses of one list are put before those of another
pub put_both : (xs ys : List Addr) (addr : Addr) (node : ℕ) (before between after : Option ℕ) → between ≡ cond (has_addr addr xs) (Some node) before → after ≡ cond (has_addr addr ys) (Some node) between → after ≡ cond (has_addr addr (xs ++ ys)) (Some node) before
put_both xs ys addr node before between after first second =
    second
    ∙ ap (cond (has_addr addr ys) (Some node)) first
    ∙ by (has_addr addr xs) (has_addr addr ys)
    ∙ ap (λ b. cond b (Some node) before) (sym (has_append addr xs ys))
  where
    by : (a b : Bool) → cond b (Some node) (cond a (Some node) before) ≡ cond (a || b) (Some node) before
    by true true = refl
    by true false = refl
    by false true = refl
    by false false = refl

pub put_interface : (i : Interface) (o4 o6 : Option Addr) (addr : Addr) (node : ℕ) (before between after : Option ℕ) → o4 ≡ address_of Ipv4 (new_interface i) → o6 ≡ address_of Ipv6 (new_interface i) → between ≡ cond (has_addr addr (listed o4)) (Some node) before → after ≡ cond (has_addr addr (listed o6)) (Some node) between → after ≡ cond (has_addr addr (interface_addresses i)) (Some node) before
put_interface i o4 o6 addr node before between after is4 is6 first second =
    put_both (listed o4) (listed o6) addr node before between after first second
    ∙ ap (λ (p : Option Addr). cond (has_addr addr (listed p ++ listed o6)) (Some node) before) is4
    ∙ ap (λ (p : Option Addr). cond (has_addr addr (listed (address_of Ipv4 (new_interface i)) ++ listed p)) (Some node) before) is6

-- the addresses of an interface are put before those of the others
pub put_more : {X : Type 0} (f : X → List Addr) (x : X) (xs : List X) (addr : Addr) (node : ℕ) (o : Option ℕ) → cond (has_addr addr (flat_map f xs)) (Some node) (cond (has_addr addr (f x)) (Some node) o) ≡ cond (has_addr addr (flat_map f (x ∷ xs))) (Some node) o
put_more f x xs addr node o =
    by (has_addr addr (f x)) (has_addr addr (flat_map f xs)) ∙ ap (λ b. cond b (Some node) o) (sym (has_append addr (f x) (flat_map f xs)))
  where
    by : (a b : Bool) → cond b (Some node) (cond a (Some node) o) ≡ cond (a || b) (Some node) o
    by true true = refl
    by true false = refl
    by false true = refl
    by false false = refl
