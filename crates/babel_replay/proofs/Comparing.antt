-- `cmp` and `==` of keys are the stated orders.
use Rattle.std.proofs.Common.{◌≡◌, ℕ, List, nat_eq, sym, ap, ◌∙◌}
use Rattle.std.specs.Cmp.Lexicographic.{pointwise, texts_ties}
use Rattle.std.specs.Ordering.{ordering_then, nat_cmp, is_eq}
use Rattle.babel_value.specs.declared.keys.Peer.{Peer}
use Rattle.babel_value.specs.Prefixes.{PrefixValue}
use Rattle.babel_value.specs.Orders.{octets_cmp, prefix_cmp}
use Rattle.babel_value.specs.contracts.addresses.AddrOrd.TheImpl as addrs
use Rattle.babel_value.specs.contracts.keys.PeerOrd.TheImpl as peers
use Rattle.babel_value.specs.contracts.keys.PeerOrd.TheImpl.Laws.{matches_eq-law as peers_match}
use Rattle.babel_value.specs.contracts.keys.PeerPartialEq.TheImpl as equal_peers
use Rattle.babel_value.specs.contracts.prefixes.PrefixOrd.TheImpl as prefixes
use Rattle.babel_value.specs.contracts.prefixes.PrefixOrd.TheImpl.Laws.{matches_eq-law}
use Rattle.babel_value.specs.contracts.prefixes.PrefixPartialEq.TheImpl as same_prefixes
use Rattle.babel_value.proofs.StatedOrders.{cmp_of_addrs, cmp_of_peers}
use Rattle.babel_state.specs.Sameness.{is_same_peer, is_same_prefix}

cmp_of_prefixes : (a b : PrefixValue) → (prefixes.ghosts).cmp a b ≡ prefix_cmp a b
cmp_of_prefixes a b = ap (λ o. ordering_then o (nat_cmp a.length b.length)) (cmp_of_addrs a.addr b.addr)

pub same_prefix : (p q : PrefixValue) → (same_prefixes.ghosts).eq p q ≡ is_same_prefix p q
same_prefix p q = matches_eq-law p q ∙ ap is_eq (cmp_of_prefixes p q)

pub same_peer : (p q : Peer) → (equal_peers.ghosts).eq p q ≡ is_same_peer p q
same_peer p q = peers_match p q ∙ ap is_eq (cmp_of_peers p q)

pub same_router : (a b : List ℕ) → is_eq (octets_cmp a b) ≡ pointwise nat_eq a b
same_router a b = sym (texts_ties a b)
