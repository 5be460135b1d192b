-- What neither reading of an address takes spells no address.
use Rattle.std.proofs.Common.{◌≡◌, ℕ, List, false, nat_eq}
use Rattle.std.specs.List.{list_any}
use Rattle.std.specs.Net.Grammar.{IsIpv4Text, IsIpv6Text}
use Rattle.std.specs.declared.net.ipv4_addr.Ipv4Addr.{Ipv4Addr}
use Rattle.std.specs.declared.net.ipv6_addr.Ipv6Addr.{Ipv6Addr}
use Rattle.babel_value.specs.declared.addresses.Addr.{Addr}
use Rattle.babel_value.specs.declared.addresses.Addr.TheVariants.{V4, V6}
use Rattle.babel_value.specs.Texts.{IsAddrText}
use Rattle.babel_value.proofs.addresses.Addr.parse_ascii.Goals as goal

neither : (text : List ℕ) → ((ip : Ipv4Addr) → ¬ IsIpv4Text text ip) →
    ((ip : Ipv6Addr) → IsIpv6Text text ip → ¬ (list_any (λ b. nat_eq b 46) text ≡ false)) → (addr : Addr) → ¬ IsAddrText text addr
neither text no4 no6 (V4 octets) w = no4 w.0 w.1
neither text no4 no6 (V6 octets) w = no6 w.0 w.1 w.3

pub returns-then-contains : goal.returns-then-contains
returns-then-contains c = neither c.args.text.now c.in_default.ensures (λ ip h none. cc (c.if-contains.true, c.contains.ensures.value))

pub returns-in-Err : goal.returns-in-Err
returns-in-Err c = neither c.args.text.now c.in_default.ensures (λ ip h none. c.in-Err.ensures ip h)
