-- `cmp` of two addresses, and of two peers, is the stated order.
use Rattle.std.proofs.Common.{◌≡◌, refl, ap}
use Rattle.std.specs.Ordering.{ordering_then, nat_cmp}
use Rattle.babel_value.specs.declared.addresses.Addr.{Addr}
use Rattle.babel_value.specs.declared.addresses.Addr.TheVariants.{V4, V6}
use Rattle.babel_value.specs.declared.keys.Peer.{Peer}
use Rattle.babel_value.specs.Orders.{addr_cmp, peer_cmp}
use Rattle.babel_value.specs.contracts.addresses.AddrOrd.TheImpl as addrs
use Rattle.babel_value.specs.contracts.keys.PeerOrd.TheImpl as peers

pub cmp_of_addrs : (a b : Addr) → (addrs.ghosts).cmp a b ≡ addr_cmp a b
cmp_of_addrs (V4 a) (V4 b) = refl
cmp_of_addrs (V4 a) (V6 b) = refl
cmp_of_addrs (V6 a) (V4 b) = refl
cmp_of_addrs (V6 a) (V6 b) = refl

pub cmp_of_peers : (a b : Peer) → (peers.ghosts).cmp a b ≡ peer_cmp a b
cmp_of_peers a b = ap (ordering_then (nat_cmp a.iface b.iface)) (cmp_of_addrs a.addr b.addr)
