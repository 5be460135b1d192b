-- The prefix of an Update (RFC 8966, section 4.6.9).
use Rattle.std.specs.Prelude.{ℕ, ◌-◌, List, Bool, Option, Some, option_map, replicate, nat_eq, if◌then◌else◌}
use Rattle.babel_message.specs.Layout as layout
use Rattle.babel_packet.specs.Numbers.{octet}
use Rattle.babel_packet.specs.Prefixes.{octets_of, prefix_octets, is_whole}

-- how many octets of the prefix are written
abbrev pub written : List ℕ → ℕ
written p = octets_of (octet p layout.update_plen) - octet p layout.update_omitted

abbrev pub is_readable : ℕ → List ℕ → Bool
is_readable size p = is_whole size (octet p layout.update_omitted) (octet p layout.update_plen) layout.update_len p

-- If nothing is omitted, no default prefix is needed.
abbrev pub base_of : ℕ → Option (List ℕ) → List ℕ → Option (List ℕ)
base_of size default p = if nat_eq (octet p layout.update_omitted) 0 then Some (replicate size 0) else default

-- the octets of the prefix's address, or none if a default prefix is needed and there is none
unfoldable pub address : ℕ → Option (List ℕ) → List ℕ → Option (List ℕ)
address size default p =
    option_map (λ base. prefix_octets size base (octet p layout.update_omitted) (octet p layout.update_plen) layout.update_len p) (base_of size default p)
