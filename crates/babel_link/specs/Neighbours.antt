-- The neighbours: a map from peers to links, as the list of its entries in the order of the peers (RFC 8966, section 3.2.4).
use Rattle.std.specs.Prelude.{◌≡◌, ◌≢◌, ◌⊎◌, ℕ, Bool, true, false, ◌&&◌, ◌==◌, not, List, [], ◌∷◌, map, filter, Option, is_none, IsTrue, All, nat_lt}
use Rattle.std.specs.List.{filter_map, list_all, list_any}
use Rattle.std.specs.Option.{option_map, option_map_or, unwrap_or}
use Rattle.std.specs.Ordering.{is_lt}
use Rattle.std.specs.FinMap.{find, put, is_sorted}
use Rattle.babel_value.specs.declared.keys.Peer.{Peer}
use Rattle.babel_value.specs.Metrics.{infinity}
use Rattle.babel_value.specs.Orders.{peer_cmp}
use Rattle.babel_link.specs.declared.changes.CostChanges.{CostChanges}
use Rattle.babel_link.specs.declared.changes.CostChanges.TheVariants.{Nothing, One, Several}
use Rattle.babel_link.specs.declared.links.Link.{Link}
use Rattle.babel_link.specs.declared.marks.Heard.{Heard}
use Rattle.babel_link.specs.Links.{new_link, hello_link, link_verdict, ihu_link, ticked_link, IsQuietUntil, link_rxcost, link_cost}

abbrev pub Links : Type 0
Links = List (Peer × Link)

-- How many neighbours there are at most (profile).
abbrev pub max_neighbours : ℕ
max_neighbours = 64

-- What is known of the peer: nothing, if it's no neighbour (RFC 8966, section 3.2.4).
abbrev pub link_of : Peer → Links → Link
link_of peer links = unwrap_or (find peer_cmp peer links) new_link

-- The neighbours after a Hello with seqno n. Only a Hello makes a neighbour (RFC 8966, section 3.4.1).
unfoldable pub hello_of : ℕ → Peer → Bool → ℕ → ℕ → Links → Links
hello_of now peer unicast n interval links =
    put peer_cmp peer (hello_link now unicast n interval (link_of peer links)) links

-- What a Hello with seqno n means for the peer: the neighbour is flushed, and so its route entries go (profile), or it's kept.
unfoldable pub hello_verdict : Peer → Bool → ℕ → Links → Heard
hello_verdict peer unicast n links = link_verdict unicast n (link_of peer links)

-- The neighbours after an IHU: nothing changes if its sender is none (RFC 8966, section 3.4.2).
unfoldable pub ihu_of : ℕ → Peer → ℕ → ℕ → Links → Links
ihu_of now peer rxcost interval links =
    option_map_or (λ link. put peer_cmp peer (ihu_link now rxcost interval link) links) (find peer_cmp peer links) links

abbrev pub ticked_entry : ℕ → Peer × Link → Option (Peer × Link)
ticked_entry now e = option_map (λ link. (e.0, link)) (ticked_link now e.1)

-- The neighbours after a tick (RFC 8966, sections 3.4.1 and 3.4.2).
unfoldable pub tick_of : ℕ → Links → Links
tick_of now links = filter_map (ticked_entry now) links

abbrev pub is_gone : ℕ → Peer × Link → Bool
is_gone now e = is_none (ticked_link now e.1)

abbrev pub peers_of : Links → List Peer
peers_of links = map (λ e. e.0) links

-- The neighbours that a tick flushes, ascending (RFC 8966, appendix A.1).
unfoldable pub gone_of : ℕ → Links → List Peer
gone_of now links = peers_of (filter (is_gone now) links)

-- A tick keeps the neighbour, and changes what its link costs over an interface of a finite nominal cost (RFC 8966, appendix A.2.1).
abbrev pub is_cost_changed : ℕ → Peer × Link → Bool
is_cost_changed now e = option_map_or (λ link. not (link_cost 0 link == link_cost 0 e.1)) (ticked_link now e.1) false

-- The neighbours that a tick keeps, with another cost of their links, ascending (RFC 8966, appendix A.2.1).
unfoldable pub changed_of : ℕ → Links → List Peer
changed_of now links = peers_of (filter (is_cost_changed now) links)

-- No cost, or that of one link, where no neighbour is flushed; else several (profile).
abbrev pub changes_by : List Peer → List Peer → CostChanges
changes_by [] [] = Nothing
changes_by [] (peer ∷ []) = One peer
changes_by [] (peer ∷ next ∷ others) = Several
changes_by (peer ∷ gone) changed = Several

-- What a tick changes of the links' costs (profile).
unfoldable pub cost_changes_of : ℕ → Links → CostChanges
cost_changes_of now links = changes_by (gone_of now links) (changed_of now links)

-- No deadline of a neighbour is due before the moment (profile).
abbrev pub AreQuietUntil : ℕ → Links → Type 0
AreQuietUntil moment links = All (λ e. IsQuietUntil moment e.1) links

-- The costs of a peer's link, infinite if it's no neighbour (RFC 8966, appendix A.2.1).
unfoldable pub rxcost_of : Peer → ℕ → Links → ℕ
rxcost_of peer nominal links = option_map_or (link_rxcost nominal) (find peer_cmp peer links) infinity

unfoldable pub cost_of : Peer → ℕ → Links → ℕ
cost_of peer nominal links = option_map_or (link_cost nominal) (find peer_cmp peer links) infinity

-- Some link has a finite cost over an interface of a finite nominal cost (RFC 8966, appendix A.2.1).
abbrev pub has_finite_link : Links → Bool
has_finite_link = list_any (λ e. nat_lt (link_cost 0 e.1) infinity)

-- Each peer comes before all later ones (profile).
abbrev pub are_ascending : List Peer → Bool
are_ascending [] = true
are_ascending (p ∷ ps) = list_all (λ q. is_lt (peer_cmp p q)) ps && are_ascending ps

-- The entry's peer comes before this one (profile).
abbrev pub comes_before : Peer → Peer × Link → Bool
comes_before peer e = is_lt (peer_cmp e.0 peer)

-- A change of the neighbours that leaves them in the order of the peers (profile).
abbrev pub KeepsOrder : (Links → Links) → Type 0
KeepsOrder change = (links : Links) → IsTrue (is_sorted peer_cmp links) → IsTrue (is_sorted peer_cmp (change links))

-- No other neighbour than this one differs (profile).
abbrev pub ChangesOnly : Peer → Links → Links → Type 0
ChangesOnly peer old new = (q : Peer) → q ≢ peer → find peer_cmp q new ≡ find peer_cmp q old

-- The link to each other neighbour than this one costs what it did, whatever the nominal cost (profile).
abbrev pub KeepsOtherCosts : Peer → Links → Links → Type 0
KeepsOtherCosts peer old new = (q : Peer) (nominal : ℕ) → q ≢ peer → cost_of q nominal new ≡ cost_of q nominal old

-- Each link costs what it did, or infinity, whatever the nominal cost (RFC 8966, appendix A.2.1).
abbrev pub CostsOnlyGrow : Links → Links → Type 0
CostsOnlyGrow old new = (peer : Peer) (nominal : ℕ) → (cost_of peer nominal new ≡ cost_of peer nominal old) ⊎ (cost_of peer nominal new ≡ infinity)

-- The link to each of these neighbours costs infinity, whatever the nominal cost (RFC 8966, appendix A.2.1).
abbrev pub AreLost : List Peer → Links → Type 0
AreLost peers links = All (λ peer. (nominal : ℕ) → cost_of peer nominal links ≡ infinity) peers
