-- The place of a peer among the neighbours, or the gap for it (profile).
use Rattle.std.specs.Prelude.{◌≡◌, ℕ, ◌<◌, ◌≤◌, Some, None, length, insert, slice_set, slice_index_or}
use Rattle.std.specs.FinMap.{find, put}
use Rattle.babel_value.specs.declared.keys.Peer.{Peer}
use Rattle.babel_value.specs.Orders.{peer_cmp}
use Rattle.babel_link.specs.declared.links.Link.{Link}
use Rattle.babel_link.specs.Neighbours.{Links}

-- The entry at this place is the peer's: to put a link is to write it there.
pub record IsPlaceOf (peer : Peer) (links : Links) (place : ℕ) : Type 0 where
  pub within : place < length links
  pub found : (d : Peer × Link) → find peer_cmp peer links ≡ Some (slice_index_or links place d).1
  pub written : (link : Link) (d : Peer × Link) → put peer_cmp peer link links ≡ slice_set links place ((slice_index_or links place d).0, link)

-- The peer has no entry: to put a link is to insert it at this place.
pub record IsGapFor (peer : Peer) (links : Links) (place : ℕ) : Type 0 where
  pub within : place ≤ length links
  pub absent : find peer_cmp peer links ≡ None
  pub inserted : (link : Link) → put peer_cmp peer link links ≡ insert links place (peer, link)
