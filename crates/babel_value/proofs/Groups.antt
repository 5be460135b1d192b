-- Groups of an IPv6 address, by halves.
use Rattle.std.proofs.Common.{◌≡◌, ℕ, ◌+◌, ◌*◌, ◌/◌, ◌%◌, ◌^◌, ◌<◌, List, ◌++◌, false, ◌∙◌, ap, arith, append_assoc, get_or, refl, sym, take, drop, w64}
use Rattle.std.specs.Fmt.{digits}
use Rattle.std.specs.Int.{from_be_bytes}
use Rattle.std.specs.Prelude.{codes}
use Rattle.std.proofs.lemmas.List.{get_or-drop, get_or-take}
use Rattle.babel_value.specs.Lines.{half_text}
use Rattle.babel_value.specs.Texts.{groups_text, ipv6_text}
use Rattle.babel_value.proofs.Digits.{hex_one}
use Rattle.babel_value.specs.Octets.{AreOctets}

-- Zero has one digit.
pub zero_after : (xs : List ℕ) → xs ++ codes "0" ≡ xs ++ digits 16 false 0
zero_after xs = ap (λ (t : List ℕ). xs ++ t) (sym (hex_one 0 (omega arith)))

-- The groups of eight octets are those of the number that they spell.
eight_in_groups : (xs : List ℕ) → ((i : ℕ) → i < 8 → get_or xs i 0 < 256) → half_text (from_be_bytes w64 xs) ≡ groups_text xs 0
eight_in_groups xs small =
    let n = from_be_bytes w64 xs in
    let sum : n ≡ get_or xs 0 0 * 256 ^ 7 + get_or xs 1 0 * 256 ^ 6 + get_or xs 2 0 * 256 ^ 5 + get_or xs 3 0 * 256 ^ 4 + get_or xs 4 0 * 256 ^ 3
    + get_or xs 5 0 * 256 ^ 2 + get_or xs 6 0 * 256 ^ 1 + get_or xs 7 0 = refl in
    let a = small 0 (omega arith) in
    let b = small 1 (omega arith) in
    let c = small 2 (omega arith) in
    let d = small 3 (omega arith) in
    let e = small 4 (omega arith) in
    let f = small 5 (omega arith) in
    let g = small 6 (omega arith) in
    let h = small 7 (omega arith) in
    let first : n / 2 ^ 48 ≡ 256 * get_or xs 0 0 + get_or xs 1 0 = omega arith in
    let second : n / 2 ^ 32 % 65536 ≡ 256 * get_or xs 2 0 + get_or xs 3 0 = omega arith in
    let third : n / 2 ^ 16 % 65536 ≡ 256 * get_or xs 4 0 + get_or xs 5 0 = omega arith in
    let fourth : n % 65536 ≡ 256 * get_or xs 6 0 + get_or xs 7 0 = omega arith in
    rw (first, second, third, fourth) refl

first_groups : (xs : List ℕ) → groups_text (take 8 xs) 0 ≡ groups_text xs 0
first_groups xs =
    rw (
      get_or-take 8 xs 0 0 (omega arith),
      get_or-take 8 xs 1 0 (omega arith),
      get_or-take 8 xs 2 0 (omega arith),
      get_or-take 8 xs 3 0 (omega arith),
      get_or-take 8 xs 4 0 (omega arith),
      get_or-take 8 xs 5 0 (omega arith),
      get_or-take 8 xs 6 0 (omega arith),
      get_or-take 8 xs 7 0 (omega arith),
    ) refl

last_groups : (xs : List ℕ) → groups_text (drop 8 xs) 0 ≡ groups_text xs 8
last_groups xs =
    rw (
      get_or-drop 8 xs 0 0,
      get_or-drop 8 xs 1 0,
      get_or-drop 8 xs 2 0,
      get_or-drop 8 xs 3 0,
      get_or-drop 8 xs 4 0,
      get_or-drop 8 xs 5 0,
      get_or-drop 8 xs 6 0,
      get_or-drop 8 xs 7 0,
    ) refl

pub in_halves : (before octets : List ℕ) → AreOctets octets
    → ((before ++ half_text (from_be_bytes w64 (take 8 octets))) ++ codes ":") ++ half_text (from_be_bytes w64 (drop 8 octets)) ≡ before ++ ipv6_text octets
in_halves before octets small =
    let first = eight_in_groups (take 8 octets) (λ i below. rw (get_or-take 8 octets i 0 below) (small i)) ∙ first_groups octets in
    let last = eight_in_groups (drop 8 octets) (λ i below. rw (get_or-drop 8 octets i 0) (small (8 + i))) ∙ last_groups octets in
    rw (first, last) (simp append_assoc)
