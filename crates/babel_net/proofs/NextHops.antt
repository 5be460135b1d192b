-- Next hops and router-ids of selected routes.
use Rattle.std.proofs.Common.{◌≡◌, ◌⊎◌, ◌<◌, ◌≤◌, ◌↔◌, ℕ, List, Option, Some, None, is_some, IsNone, option_map, length, map, slice_get, refl, sym, ap, ◌∙◌, inl, inr}
use Rattle.std.specs.BTreeMap.{BTreeMap, get}
use Rattle.std.specs.Option.{option_and_then, unwrap_or}
use Rattle.std.proofs.lemmas.Bool.{cases_lt, false≢true}
use Rattle.std.proofs.lemmas.List.{get_or_past}
use Rattle.std.proofs.lemmas.Option.{none-some, slice_get-map, unwrap_or-slice_get}
use Rattle.babel_value.specs.declared.addresses.Addr.{Addr}
use Rattle.babel_value.specs.Orders.{addr_cmp}
use Rattle.babel_value.specs.Prefixes.{PrefixValue}
use Rattle.babel_state.specs.declared.selected.Selected.{Selected}
use Rattle.babel_state.specs.Calls.{selected_route}
use Rattle.babel_state.specs.Seen.{Seen, seen, heard_of}
use Rattle.babel_state.specs.State.{State}
use Rattle.babel_machine.specs.NetworkLaws.{NextHopsArePicks}
use Rattle.babel_machine.specs.Owners.{owner_of}
use Rattle.babel_machine.specs.Worlds.{World, speaker_at, nothing, next_hop_in, router_in}
use Rattle.babel_net.specs.Networks.{NetworkState, world_of}
use Rattle.babel_net.specs.Invariants.{IsNetwork}
use Rattle.babel_net.specs.Owned.{AreOwners}
use Rattle.babel_net.specs.Promises.{IsNextHop}

speaker_as : (n : NetworkState) (node : ℕ) → speaker_at (world_of n) node ≡ unwrap_or (option_map seen (slice_get n.speakers node)) nothing
speaker_as n node = sym (unwrap_or-slice_get (map seen n.speakers) node nothing) ∙ ap (λ (o : Option Seen). unwrap_or o nothing) (slice_get-map seen n.speakers node)

pub selected_as : (n : NetworkState) (node : ℕ) (prefix : PrefixValue) → option_and_then (selected_route prefix) (slice_get n.speakers node) ≡ (speaker_at (world_of n) node).selected_at prefix
unfolding seen
selected_as n node prefix = by (slice_get n.speakers node) (speaker_as n node)
  where
    by : (o : Option State) → speaker_at (world_of n) node ≡ unwrap_or (option_map seen o) nothing → option_and_then (selected_route prefix) o ≡ (speaker_at (world_of n) node).selected_at prefix
    by None is = sym (ap (λ (x : Seen). x.selected_at prefix) is)
    by (Some s) is = sym (ap (λ (x : Seen). x.selected_at prefix) is)

-- ---- what is returned

pub hop_returned : (n : NetworkState) (nodes : BTreeMap Addr ℕ) (node : ℕ) (prefix : PrefixValue) (selected : Option Selected) (next : Option ℕ) → AreOwners n.configs nodes → selected ≡ option_and_then (selected_route prefix) (slice_get n.speakers node) → next ≡ option_and_then (λ (route : Selected). get addr_cmp nodes route.peer.addr) selected → next ≡ next_hop_in n.configs (world_of n) prefix node
hop_returned n nodes node prefix selected next owners of_node returned =
    returned ∙ by selected ∙ ap (option_and_then (λ (route : Selected). owner_of n.configs route.peer.addr)) (of_node ∙ selected_as n node prefix)
  where
    by : (o : Option Selected) → option_and_then (λ (route : Selected). get addr_cmp nodes route.peer.addr) o ≡ option_and_then (λ (route : Selected). owner_of n.configs route.peer.addr) o
    by None = refl
    by (Some route) = owners route.peer.addr

pub router_returned : (n : NetworkState) (node : ℕ) (prefix : PrefixValue) (selected : Option Selected) (router : Option (List ℕ)) → selected ≡ option_and_then (selected_route prefix) (slice_get n.speakers node) → router ≡ option_map (λ (route : Selected). route.router) selected → router ≡ router_in (world_of n) prefix node
router_returned n node prefix selected router of_node returned =
    returned ∙ ap (option_map (λ (route : Selected). route.router)) (of_node ∙ selected_as n node prefix)

-- ---- the node of a selected route's neighbour

route_owner : (n : NetworkState) (node : ℕ) (prefix : PrefixValue) (route : Selected) → IsNetwork n → (speaker_at (world_of n) node).selected_at prefix ≡ Some route → (next : ℕ) × (owner_of n.configs route.peer.addr ≡ Some next) × (owner_of n.configs route.next_hop ≡ Some next)
route_owner n node prefix route net is =
    let at = (net.sound.holds.selecting node).entry prefix route is in
    let was = net.sound.holds.heard node prefix route.peer (heard_of route) at in
    (was.node, was.neighbour, was.next_hop)

-- there is a next hop exactly if there is a router-id
pub none_alike : (n : NetworkState) (node : ℕ) (prefix : PrefixValue) → IsNetwork n → (IsNone (next_hop_in n.configs (world_of n) prefix node) ↔ IsNone (router_in (world_of n) prefix node))
none_alike n node prefix net = by ((speaker_at (world_of n) node).selected_at prefix) refl
  where
    by : (o : Option Selected) → (speaker_at (world_of n) node).selected_at prefix ≡ o → (IsNone (option_and_then (λ (route : Selected). owner_of n.configs route.peer.addr) o) ↔ IsNone (option_map (λ (route : Selected). route.router) o))
    by None is = (λ h. refl, λ h. refl)
    by (Some route) is =
        let own = route_owner n node prefix route net is in
        (λ h. absurd (false≢true (sym h ∙ ap is_some own.1)), λ h. absurd (false≢true (sym h)))

inside_of : (w : World) (node : ℕ) (prefix : PrefixValue) (router : List ℕ) → router_in w prefix node ≡ Some router → node < length w.speakers
inside_of w node prefix router is = by (cases_lt node (length w.speakers))
  where
    by : ((node < length w.speakers) ⊎ (length w.speakers ≤ node)) → node < length w.speakers
    by (inl inside) = inside
    by (inr past) = absurd (none-some router (sym (ap (λ (x : Seen). option_map (λ (route : Selected). route.router) (x.selected_at prefix)) (get_or_past w.speakers node nothing past)) ∙ is))

pub next_hop_facts : NextHopsArePicks → (n : NetworkState) (node : ℕ) (prefix : PrefixValue) (next : Option ℕ) → IsNetwork n → next ≡ next_hop_in n.configs (world_of n) prefix node → IsNextHop n prefix node next
next_hop_facts picks n node prefix next net is = record {
  pick = λ s same named.
      is ∙ ap (λ (p : PrefixValue). next_hop_in n.configs (world_of n) p node) (sym same)
      ∙ sym (picks n.configs (world_of n) s node (inside_of (world_of n) node prefix s.router named) (ap (λ (p : PrefixValue). router_in (world_of n) p node) same ∙ named));
  address = λ route at.
      let own = route_owner n node prefix route net at in
      is ∙ ap (option_and_then (λ (r : Selected). owner_of n.configs r.peer.addr)) at ∙ own.1 ∙ sym own.2;
}
