-- Those that were found, and those that are still to come.
use Rattle.std.proofs.Common.{◌≡◌, ◌+◌, ◌≤◌, ◌++◌, length, filter}
use Rattle.std.specs.Prelude.{nat_eq}
use Rattle.arrayvec.specs.ArrayVec.{array_vec_len}
use Rattle.babel_state.specs.LostLinks.{peers_on}
use Rattle.babel_speaker.proofs.input.lost_links.peers_on.Given as goal

abbrev pub invariant-loop-peer : goal.invariant-loop-peer
invariant-loop-peer l = record {
  found : l.peers.items ++ filter (λ peer. nat_eq peer.iface l.iface) l.peer-iterator ≡ peers_on l.iface l.neighbours;
  room : array_vec_len l.peers + length l.peer-iterator ≤ 64;
}
