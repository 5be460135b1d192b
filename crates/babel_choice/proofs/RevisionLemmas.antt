-- A flush of several neighbours takes the routes of each.
use Rattle.std.proofs.Common.{◌≡◌, ℕ, List, true, Some, slice_get}
use Rattle.std.proofs.lemmas.Map.Keys.{any_passes_from_place}
use Rattle.babel_value.specs.declared.keys.Peer.{Peer}
use Rattle.babel_choice.specs.declared.entries.RouteKey.{RouteKey}
use Rattle.babel_choice.specs.Routes.{is_from, is_from_any}

pub from_one : (peers : List Peer) (i : ℕ) (peer : Peer) (key : RouteKey) → slice_get peers i ≡ Some peer → is_from peer key ≡ true → is_from_any peers key ≡ true
from_one peers i peer key = any_passes_from_place (λ other. is_from other key) peers i peer
