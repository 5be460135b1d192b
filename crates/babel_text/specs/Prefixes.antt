-- Addresses with a length, and prefixes, as text (profile).
use Rattle.std.specs.Prelude.{◌≡◌, ◌<◌, ◌==◌, ℕ, List, length, Some}
use Rattle.std.specs.List.{position_or_len, before_first, after_first}
use Rattle.babel_value.specs.declared.addresses.Addr.{Addr}
use Rattle.babel_value.specs.Texts.{IsAddrText}
use Rattle.babel_value.specs.Prefixes.{PrefixValue, prefix_of}
use Rattle.babel_text.specs.Numbers.{IsNumberText}

-- An address is before the first slash, and a number below 256 after it.
abbrev pub IsNetworkText : List ℕ → Addr × ℕ → Type 0
IsNetworkText text net =
    (position_or_len (λ octet. octet == 47) text < length text)
    × IsAddrText (before_first (λ octet. octet == 47) text) net.0
    × IsNumberText 8 (after_first (λ octet. octet == 47) text) net.1

-- The prefix is that of an address and a length; bits past the length are cleared.
abbrev pub IsPrefixText : List ℕ → PrefixValue → Type 0
IsPrefixText text prefix =
    (net : Addr × ℕ) × IsNetworkText text net × (prefix_of net.0 net.1 ≡ Some prefix)
