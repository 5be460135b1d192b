-- Clearing a second time changes nothing, and clearing keeps the family.
use Rattle.std.proofs.Common.{◌≡◌, ℕ, ◌-◌, ◌*◌, ◌/◌, ◌%◌, ◌^◌, List, [], ◌∷◌, refl, ap, arith, mul_comm}
use Rattle.std.proofs.Math.Nat.{mod-add-div, mul-mod_left}
use Rattle.babel_value.specs.declared.addresses.Addr.{Addr}
use Rattle.babel_value.specs.declared.addresses.Addr.TheVariants.{V4, V6}
use Rattle.babel_value.specs.Addresses.{width_of}
use Rattle.babel_value.specs.Prefixes.{cleared, cleared_addr}

-- The rest is a multiple of m, so nothing more is cut.
pub rounded-rounded : (a m : ℕ) → (a - a % m) - (a - a % m) % m ≡ a - a % m
rounded-rounded a m =
    let whole : a - a % m ≡ a / m * m = omega (arith, mod-add-div a m, mul_comm m (a / m)) in rw (whole, mul-mod_left (a / m) m) (omega arith)

pub cleared-cleared : (bits : ℕ) (octets : List ℕ) → cleared bits (cleared bits octets) ≡ cleared bits octets
cleared-cleared bits [] = refl
cleared-cleared bits (octet ∷ octets) =
    let first = rounded-rounded octet (2 ^ (8 - bits)) in let rest = cleared-cleared (bits - 8) octets in cc

pub cleared_addr-cleared_addr : (bits : ℕ) (addr : Addr) → cleared_addr bits (cleared_addr bits addr) ≡ cleared_addr bits addr
cleared_addr-cleared_addr bits (V4 octets) = ap V4 (cleared-cleared bits octets)
cleared_addr-cleared_addr bits (V6 octets) = ap V6 (cleared-cleared bits octets)

pub width_of-cleared_addr : (bits : ℕ) (addr : Addr) → width_of (cleared_addr bits addr) ≡ width_of addr
width_of-cleared_addr bits (V4 octets) = refl
width_of-cleared_addr bits (V6 octets) = refl
