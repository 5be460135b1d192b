-- Octets are in the order of the numbers that they spell, the highest octet first.
use Rattle.std.proofs.Common.{◌≡◌, ℕ, zero, suc, ◌<◌, ◌≤◌, ◌+◌, ◌*◌, ◌^◌, Bool, true, false, nat_eq, List, [], ◌∷◌, length, take, drop, get_or, refl, sym, ap, ◌∙◌, arith, length-drop, w32, w64}
use Rattle.std.proofs.lemmas.List.{take_all, get_or-drop}
use Rattle.std.specs.declared.cmp.Ordering.{Ordering}
use Rattle.std.specs.declared.cmp.Ordering.TheVariants.{Less, Equal, Greater}
use Rattle.std.specs.Ordering.{nat_cmp, ordering_then, MatchOrdering}
use Rattle.std.specs.Cmp.{ranks, nat_cmp_is}
use Rattle.std.specs.Slice.Scan.{big_endian}
use Rattle.std.specs.Int.{from_be_bytes}
use Rattle.std.specs.Str.{bytes_eq}
use Rattle.std.proofs.lemmas.Bool.{eqb-true, eq-eqb}
use Rattle.std.proofs.lemmas.Nat.{be_bytes_8}
use Rattle.std.proofs.lemmas.Slice.Eq.{bytes_eq-Decides}
use Rattle.babel_value.specs.Orders.{octets_cmp}
use Rattle.babel_value.specs.Octets.{AreOctets}

then_equal : (o : Ordering) → ordering_then o Equal ≡ o
then_equal Less = refl
then_equal Equal = refl
then_equal Greater = refl

then_then : (o p q : Ordering) → ordering_then (ordering_then o p) q ≡ ordering_then o (ordering_then p q)
then_then Less p q = refl
then_then Equal p q = refl
then_then Greater p q = refl

-- An octet more decides only if the numbers before it are the same.
octet_more : (a b x y : ℕ) → x < 256 → y < 256 → ordering_then (nat_cmp a b) (nat_cmp x y) ≡ nat_cmp (a * 256 + x) (b * 256 + y)
octet_more a b x y x_small y_small =
    nat_cmp_is (a * 256 + x) (b * 256 + y) (ordering_then (nat_cmp a b) (nat_cmp x y)) (by (nat_cmp a b) (nat_cmp x y) (ranks a b) (ranks x y))
  where
    by : (o p : Ordering) → MatchOrdering o (a < b) (a ≡ b) (b < a) → MatchOrdering p (x < y) (x ≡ y) (y < x)
        → MatchOrdering (ordering_then o p) (a * 256 + x < b * 256 + y) (a * 256 + x ≡ b * 256 + y) (b * 256 + y < a * 256 + x)
    by Less p high low = let less : a < b = high in omega arith
    by Greater p high low = let less : b < a = high in omega arith
    by Equal Less high low = let same : a ≡ b = high in let less : x < y = low in omega arith
    by Equal Equal high low = let same : a ≡ b = high in let too : x ≡ y = low in omega arith
    by Equal Greater high low = let same : a ≡ b = high in let less : y < x = low in omega arith

pub cmp-big_endian : (a b : ℕ) (xs ys : List ℕ) → length xs ≡ length ys → AreOctets xs → AreOctets ys →
    nat_cmp (big_endian a xs) (big_endian b ys) ≡ ordering_then (nat_cmp a b) (octets_cmp xs ys)
cmp-big_endian a b [] [] long xs_small ys_small = sym (then_equal (nat_cmp a b))
cmp-big_endian a b [] (y ∷ ys) long xs_small ys_small = cc
cmp-big_endian a b (x ∷ xs) [] long xs_small ys_small = cc
cmp-big_endian a b (x ∷ xs) (y ∷ ys) long xs_small ys_small =
    cmp-big_endian (a * 256 + x) (b * 256 + y) xs ys (omega arith) (λ i. xs_small (suc i)) (λ i. ys_small (suc i))
    ∙ ap (λ o. ordering_then o (octets_cmp xs ys)) (sym (octet_more a b x y (xs_small 0) (ys_small 0)))
    ∙ then_then (nat_cmp a b) (nat_cmp x y) (octets_cmp xs ys)

-- The first n values of f.
abbrev pub listed : ℕ → (ℕ → ℕ) → List ℕ
listed zero f = []
listed (suc n) f = f 0 ∷ listed n (λ i. f (suc i))

listed-take : (n : ℕ) (xs : List ℕ) → n ≤ length xs → listed n (λ i. get_or xs i 0) ≡ take n xs
listed-take zero xs long = refl
listed-take (suc n) [] long = absurd (omega arith)
listed-take (suc n) (x ∷ xs) long = ap (λ rest. x ∷ rest) (listed-take n xs (omega arith))

-- The first 8 of 16 octets one by one, and the last 8.
pub first_eight : (xs : List ℕ) → length xs ≡ 16 → listed 8 (λ i. get_or xs i 0) ≡ take 8 xs
first_eight xs long = listed-take 8 xs (omega arith)

pub last_eight : (xs : List ℕ) → length xs ≡ 16 → listed 8 (λ i. get_or xs (8 + i) 0) ≡ drop 8 xs
last_eight xs long =
    let few : length (drop 8 xs) ≡ 8 = omega (arith, length-drop 8 xs) in
    sym (λ j. listed 8 (λ i. get_or-drop 8 xs i 0 j)) ∙ listed-take 8 (drop 8 xs) (omega arith) ∙ take_all 8 (drop 8 xs) (omega arith)

four_spell : (xs : List ℕ) → length xs ≡ 4 → from_be_bytes w32 xs ≡ big_endian 0 xs
four_spell xs long =
    let sum : get_or xs 0 0 * 256 ^ 3 + get_or xs 1 0 * 256 ^ 2 + get_or xs 2 0 * 256 ^ 1 + get_or xs 3 0 ≡ big_endian 0 (listed 4 (λ i. get_or xs i 0)) = omega arith in
    sum ∙ ap (big_endian 0) (listed-take 4 xs (omega arith) ∙ take_all 4 xs (omega arith))

eight_spell : (xs : List ℕ) → length xs ≡ 8 → from_be_bytes w64 xs ≡ big_endian 0 xs
eight_spell xs long =
    let sum : get_or xs 0 0 * 256 ^ 7 + get_or xs 1 0 * 256 ^ 6 + get_or xs 2 0 * 256 ^ 5 + get_or xs 3 0 * 256 ^ 4 + get_or xs 4 0 * 256 ^ 3 + get_or xs 5 0 * 256 ^ 2 + get_or xs 6 0 * 256 ^ 1 + get_or xs 7 0 ≡
    big_endian 0 (listed 8 (λ i. get_or xs i 0)) = omega arith in
    sum ∙ ap (big_endian 0) (listed-take 8 xs (omega arith) ∙ take_all 8 xs (omega arith))

pub cmp_numbers4 : (xs ys : List ℕ) → length xs ≡ 4 → length ys ≡ 4 → AreOctets xs → AreOctets ys →
    nat_cmp (from_be_bytes w32 xs) (from_be_bytes w32 ys) ≡ octets_cmp xs ys
cmp_numbers4 xs ys xs_long ys_long xs_small ys_small =
    rw (four_spell xs xs_long, four_spell ys ys_long) (cmp-big_endian 0 0 xs ys (xs_long ∙ sym ys_long) xs_small ys_small)

pub cmp_numbers8 : (xs ys : List ℕ) → length xs ≡ 8 → length ys ≡ 8 → AreOctets xs → AreOctets ys →
    nat_cmp (from_be_bytes w64 xs) (from_be_bytes w64 ys) ≡ octets_cmp xs ys
cmp_numbers8 xs ys xs_long ys_long xs_small ys_small =
    rw (eight_spell xs xs_long, eight_spell ys ys_long) (cmp-big_endian 0 0 xs ys (xs_long ∙ sym ys_long) xs_small ys_small)

-- The first n octets decide, then the others.
pub cmp_parts : (n : ℕ) (xs ys : List ℕ) → n ≤ length xs → n ≤ length ys →
    ordering_then (octets_cmp (take n xs) (take n ys)) (octets_cmp (drop n xs) (drop n ys)) ≡ octets_cmp xs ys
cmp_parts zero xs ys xs_long ys_long = refl
cmp_parts (suc n) [] ys xs_long ys_long = absurd (omega arith)
cmp_parts (suc n) (x ∷ xs) [] xs_long ys_long = absurd (omega arith)
cmp_parts (suc n) (x ∷ xs) (y ∷ ys) xs_long ys_long =
    then_then (nat_cmp x y) (octets_cmp (take n xs) (take n ys)) (octets_cmp (drop n xs) (drop n ys))
    ∙ ap (ordering_then (nat_cmp x y)) (cmp_parts n xs ys (omega arith) (omega arith))

pub both_true : (a b : Bool) → (a ≡ true → b ≡ true) → (b ≡ true → a ≡ true) → a ≡ b
both_true true b there back = sym (there refl)
both_true false true there back = back refl
both_true false false there back = refl

-- Octets are the same if and only if the numbers that they spell are.
pub equal_numbers8 : (xs ys : List ℕ) → length xs ≡ 8 → length ys ≡ 8 → AreOctets xs → AreOctets ys →
    nat_eq (from_be_bytes w64 xs) (from_be_bytes w64 ys) ≡ bytes_eq xs ys
equal_numbers8 xs ys xs_long ys_long xs_small ys_small =
    both_true (nat_eq (from_be_bytes w64 xs) (from_be_bytes w64 ys)) (bytes_eq xs ys)
    (λ same. (bytes_eq-Decides xs ys).1 (sym (be_bytes_8 xs (from_be_bytes w64 ys) xs_long xs_small (sym (eqb-true _ _ same))) ∙ be_bytes_8 ys (from_be_bytes w64 ys) ys_long ys_small refl))
    (λ same. eq-eqb _ _ (ap (from_be_bytes w64) ((bytes_eq-Decides xs ys).0 same)))
