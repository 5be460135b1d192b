-- A text spells at most one address, and at most one network.
use Rattle.std.proofs.Common.{◌≡◌, ℕ, List, Option, Some, None, sym, ap, ◌∙◌, arith}
use Rattle.std.proofs.lemmas.Fmt.{decimal_injective}
use Rattle.std.proofs.NetLemmas.Theorems.{IsIpv4Text_unique, IsIpv6Text_unique}
use Rattle.std.proofs.NetLemmas.Ipv6.{IsDotted-not_colon_hex}
use Rattle.std.specs.Net.Addr.{ipv4_octets, ipv6_octets}
use Rattle.babel_value.specs.declared.addresses.Addr.{Addr}
use Rattle.babel_value.specs.declared.addresses.Addr.TheVariants.{V4, V6}
use Rattle.babel_value.specs.Texts.{IsAddrText}
use Rattle.babel_value.specs.Prefixes.{PrefixValue, prefix_of}
use Rattle.babel_text.specs.Readings.{Reads}
use Rattle.babel_text.specs.Prefixes.{IsNetworkText, IsPrefixText}

pub one_address : (text : List ℕ) (a b : Addr) → IsAddrText text a → IsAddrText text b → a ≡ b
one_address text (V4 a) (V4 b) (ip, spelled, same) (iq, spelled', same') = ap V4 (same ∙ ap ipv4_octets (IsIpv4Text_unique text ip iq spelled spelled') ∙ sym same')
one_address text (V4 a) (V6 b) (ip, spelled, same) (iq, spelled', same', none) = absurd (IsDotted-not_colon_hex text _ _ spelled spelled')
one_address text (V6 a) (V4 b) (ip, spelled, same, none) (iq, spelled', same') = absurd (IsDotted-not_colon_hex text _ _ spelled' spelled)
one_address text (V6 a) (V6 b) (ip, spelled, same, none) (iq, spelled', same', none') = ap V6 (same ∙ ap ipv6_octets (IsIpv6Text_unique text ip iq spelled spelled') ∙ sym same')

pub one_network : (text : List ℕ) (net other : Addr × ℕ) → IsNetworkText text net → IsNetworkText text other → (net.0 ≡ other.0) × (net.1 ≡ other.1)
one_network text net other h k =
    (one_address _ net.0 other.0 h.1 k.1, decimal_injective net.1 other.1 (omega arith) (omega arith) (sym h.2.1 ∙ k.2.1))

-- what reading the network's text gives for the prefix
pub network_prefix : (text : List ℕ) (net : Addr × ℕ) → IsNetworkText text net → (o : Option PrefixValue) → o ≡ prefix_of net.0 net.1 → Reads IsPrefixText text o
network_prefix text net h (Some p) e = (net, h, sym e)
network_prefix text net h None e = λ p (other, k, found).
    let (addr, len) = one_network text net other h k in
    cc
