-- Octets are zeros if and only if the number that they spell is 0.
use Rattle.std.specs.Prelude.{◌≡◌, ℕ, zero, suc, ◌+◌, ◌*◌, ◌^◌, ◌<◌, ◌≤◌, Bool, true, false, ◌&&◌, ◌==◌, List, [], ◌∷◌, take, drop, length, replicate, slice_index}
use Rattle.std.specs.Str.{bytes_eq}
use Rattle.std.proofs.Common.{refl, sym, ap, ◌∙◌, arith, drop-drop}
use Rattle.std.proofs.Math.Dec.{eqb-suc-zero}
use Rattle.std.proofs.Math.Seq.{drop-cons}
use Rattle.std.proofs.lemmas.List.{length-drop}
use Rattle.byteorder.specs.Endian.{big_from, big_number}

positive : (n : ℕ) → 0 < n → (n == 0) ≡ false
positive zero some = absurd (omega arith)
positive (suc n) some = eqb-suc-zero n

power : (n : ℕ) → 0 < 256 ^ n
power zero = omega arith
power (suc n) = let below = power n in omega arith

zero_sum : (x p m : ℕ) → 0 < p → (x * p + m == 0) ≡ (x == 0) && (m == 0)
zero_sum zero p m some = let sum : 0 * p + m ≡ m = omega arith in ap (λ k. k == 0) sum
zero_sum (suc x) p m some = let product = x * p in positive (suc x * p + m) (omega arith) ∙ sym (ap (λ b. b && (m == 0)) (eqb-suc-zero x))

zeros_from : (n i : ℕ) (xs : List ℕ) → i + n ≤ length xs → (big_from i n xs == 0) ≡ bytes_eq (take n (drop i xs)) (replicate n 0)
zeros_from zero i xs long = refl
zeros_from (suc n) i xs long =
    zero_sum (slice_index xs i) (256 ^ n) (big_from (suc i) n xs) (power n)
    ∙ ap (λ b. (slice_index xs i == 0) && b) (zeros_from n (suc i) xs (omega arith))
    ∙ sym (ap (λ ys. bytes_eq (take (suc n) ys) (replicate (suc n) 0)) (drop-cons xs i 0 (omega arith)))

and_assoc : (a b c : Bool) → (a && b) && c ≡ a && (b && c)
and_assoc true b c = refl
and_assoc false b c = refl

zeros_parts : (m n : ℕ) (xs : List ℕ) → m + n ≤ length xs →
    bytes_eq (take (m + n) xs) (replicate (m + n) 0) ≡ bytes_eq (take m xs) (replicate m 0) && bytes_eq (take n (drop m xs)) (replicate n 0)
zeros_parts zero n xs long = let sum : 0 + n ≡ n = omega arith in ap (λ k. bytes_eq (take k xs) (replicate k 0)) sum
zeros_parts (suc m) n [] long = absurd (omega arith)
zeros_parts (suc m) n (x ∷ xs) long =
    let sum : suc m + n ≡ suc (m + n) = omega arith in
    ap (λ k. bytes_eq (take k (x ∷ xs)) (replicate k 0)) sum
    ∙ ap (λ b. (x == 0) && b) (zeros_parts m n xs (omega arith))
    ∙ sym (and_assoc (x == 0) (bytes_eq (take m xs) (replicate m 0)) (bytes_eq (take n (drop m xs)) (replicate n 0)))

pub filled : (r : List ℕ) → length r ≡ 30 → (big_number 8 (drop 5 r) == 0) && (big_number 4 (drop 13 r) == 0) ≡ bytes_eq (take 12 (drop 5 r)) (replicate 12 0)
filled r len =
    (λ j. zeros_from 8 0 (drop 5 r) (omega (arith, len, length-drop 5 r)) j && zeros_from 4 0 (drop 13 r) (omega (arith, len, length-drop 13 r)) j)
    ∙ ap (λ ys. bytes_eq (take 8 (drop 5 r)) (replicate 8 0) && bytes_eq (take 4 ys) (replicate 4 0)) (sym (drop-drop 8 5 r))
    ∙ sym (zeros_parts 8 4 (drop 5 r) (omega (arith, len, length-drop 5 r)))
