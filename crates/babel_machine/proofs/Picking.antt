-- Owners of addresses, and which pick a selected route is.
use Rattle.std.proofs.Common.{◌≡◌, ◌<◌, ℕ, ◌+◌, Bool, true, false, List, [], ◌∷◌, Option, Some, None, option_map, length, filter, Contains, refl, ap, ◌∙◌, subst, arith, cond}
use Rattle.std.specs.Ordering.{eq_by_cmp}
use Rattle.std.proofs.lemmas.Option.{same_Some, none-some}
use Rattle.std.proofs.lemmas.Cmp.{eq_by_cmp_equiv}
use Rattle.std.proofs.lemmas.Map.Views.{tells_apart}
use Rattle.std.proofs.lemmas.Map.Lookups.{exact_bytes}
use Rattle.std.specs.Cmp.Lexicographic.{nat_list_cmp_total}
use Rattle.babel_value.specs.declared.addresses.Addr.{Addr}
use Rattle.babel_value.specs.declared.keys.Source.{Source}
use Rattle.babel_value.specs.Orders.{source_cmp}
use Rattle.babel_value.proofs.OrderLaws.{source_exact, source_total}
use Rattle.babel_value.specs.Prefixes.{PrefixValue}
use Rattle.babel_state.specs.declared.configs.Config.{Config}
use Rattle.babel_state.specs.declared.selected.Selected.{Selected}
use Rattle.babel_state.specs.Sameness.{is_same_router}
use Rattle.babel_state.specs.Seen.{UpdateValue, is_of_source}
use Rattle.babel_machine.specs.declared.machine.pick.Pick.{Pick}
use Rattle.babel_machine.specs.Owners.{owner_of, has_addr, addresses_of}
use Rattle.babel_machine.specs.Worlds.{SentDatagram, updates_of}
use Rattle.babel_machine.specs.Views.{NetSource, lifted, sent_by, pick_of}
use Rattle.babel_machine.proofs.Membership.{Contains-filter, Contains-map}

-- an owner is a node
pub owner_within : (configs : List Config) (addr : Addr) (node : ℕ) → owner_of configs addr ≡ Some node → node < length configs
owner_within [] addr node is = absurd (none-some node is)
owner_within (c ∷ cs) addr node is = by (owner_within cs addr) (has_addr addr (addresses_of c)) (owner_of cs addr) refl is
  where
    by : ((n : ℕ) → owner_of cs addr ≡ Some n → n < length cs) → (b : Bool) → (o : Option ℕ) → owner_of cs addr ≡ o → cond b (Some 0) (option_map (λ n. n + 1) o) ≡ Some node → node < length (c ∷ cs)
    by more true o _ is = omega (arith, same_Some 0 node is)
    by more false None _ is = absurd (none-some node is)
    by more false (Some n) owner is = omega (arith, same_Some (n + 1) node is, more n owner)

-- equal router-ids pass the test, and no others do
pub same_router : (r q : List ℕ) → is_same_router r q ≡ true → r ≡ q
same_router r q is = tells_apart exact_bytes r q is

pub same_router_itself : (r q : List ℕ) → r ≡ q → is_same_router r q ≡ true
same_router_itself r q is = subst (λ z. is_same_router r z ≡ true) is ((eq_by_cmp_equiv nat_list_cmp_total).refl r)

pub of_source : (prefix : PrefixValue) (router : List ℕ) (u : UpdateValue) → is_of_source prefix router u ≡ true → (prefix ≡ u.prefix) × (router ≡ u.router)
of_source prefix router u is =
    let same = tells_apart source_exact (record { prefix = prefix; router = router }) (record { prefix = u.prefix; router = u.router }) is in
    (ap (λ (s : Source). s.prefix) same, ap (λ (s : Source). s.router) same)

pub of_source_itself : (prefix : PrefixValue) (router : List ℕ) (u : UpdateValue) → prefix ≡ u.prefix → router ≡ u.router → is_of_source prefix router u ≡ true
of_source_itself prefix router u p r =
    subst (λ z. eq_by_cmp source_cmp (record { prefix = prefix; router = router }) (record { prefix = z; router = u.router }) ≡ true) p (subst (λ z. eq_by_cmp source_cmp (record { prefix = prefix; router = router }) (record { prefix = prefix; router = z }) ≡ true) r ((eq_by_cmp_equiv source_total).refl (record { prefix = prefix; router = router })))

-- what a node sent for the source
pub sent_by-update : (s : NetSource) (sent : List SentDatagram) (node : ℕ) (u : UpdateValue) → Contains (updates_of node sent) u → s.prefix ≡ u.prefix → s.router ≡ u.router → Contains (sent_by s sent node) (lifted s u.distance)
sent_by-update s sent node u there p r =
    Contains-map (λ (v : UpdateValue). lifted s v.distance) (filter (is_of_source s.prefix s.router) (updates_of node sent)) u (Contains-filter (is_of_source s.prefix s.router) (updates_of node sent) u (of_source_itself s.prefix s.router u p r) there)

-- the selected route that a pick is
pub record IsPicked (configs : List Config) (s : NetSource) (selected : Option Selected) (k : Pick) : Type 0 where
  pub route : Selected
  pub is : selected ≡ Some route
  pub router : route.router ≡ s.router
  pub from : owner_of configs route.peer.addr ≡ Some k.from
  pub pair : lifted s route.distance ≡ k.pair

pub picked_from : (configs : List Config) (s : NetSource) (selected : Option Selected) (k : Pick) → pick_of configs s selected ≡ Some k → IsPicked configs s selected k
picked_from configs s None k is = absurd (none-some k is)
picked_from configs s (Some c) k is = by (is_same_router c.router s.router) refl (owner_of configs c.peer.addr) refl is
  where
    by : (b : Bool) → is_same_router c.router s.router ≡ b → (o : Option ℕ) → owner_of configs c.peer.addr ≡ o → cond b (option_map (λ from. record { from = from; pair = lifted s c.distance }) o) None ≡ Some k → IsPicked configs s (Some c) k
    by false _ o _ is = absurd (none-some k is)
    by true _ None _ is = absurd (none-some k is)
    by true same (Some from) owner is = record {
      route = c;
      is = refl;
      router = same_router c.router s.router same;
      from = owner ∙ ap (λ (j : Pick). Some j.from) (same_Some _ k is);
      pair = ap (λ (j : Pick). j.pair) (same_Some _ k is);
    }

pub pick_of-route : (configs : List Config) (s : NetSource) (c : Selected) (from : ℕ) → c.router ≡ s.router → owner_of configs c.peer.addr ≡ Some from → pick_of configs s (Some c) ≡ Some (record { from = from; pair = lifted s c.distance })
pick_of-route configs s c from same owner =
    ap (λ b. cond b (option_map (λ from. record { from = from; pair = lifted s c.distance }) (owner_of configs c.peer.addr)) None) (same_router_itself c.router s.router same) ∙ ap (option_map (λ from. record { from = from; pair = lifted s c.distance })) owner
