-- Octets are the same if and only if the numbers that they spell are.
use Rattle.std.proofs.Common.{◌≡◌, ℕ, ◌&&◌, Bool, true, List, ◌++◌, length, take, drop, nat_eq, refl, ap, sym, ◌∙◌, w32}
use Rattle.std.specs.Str.{bytes_eq}
use Rattle.std.specs.Int.{from_be_bytes}
use Rattle.std.proofs.lemmas.Bool.{eqb-true, eq-eqb, and_parts}
use Rattle.std.proofs.lemmas.List.{take-append-drop}
use Rattle.std.proofs.lemmas.Nat.{be_bytes_4}
use Rattle.std.proofs.lemmas.Slice.Eq.{bytes_eq-Decides}
use Rattle.babel_value.proofs.Numbers.{both_true}
use Rattle.babel_value.specs.Octets.{AreOctets}

pub equal_numbers4 : (xs ys : List ℕ) → length xs ≡ 4 → length ys ≡ 4 → AreOctets xs → AreOctets ys →
    nat_eq (from_be_bytes w32 xs) (from_be_bytes w32 ys) ≡ bytes_eq xs ys
equal_numbers4 xs ys xs_long ys_long xs_small ys_small =
    both_true (nat_eq (from_be_bytes w32 xs) (from_be_bytes w32 ys)) (bytes_eq xs ys)
    (λ same. (bytes_eq-Decides xs ys).1 (sym (be_bytes_4 xs (from_be_bytes w32 ys) xs_long xs_small (sym (eqb-true _ _ same))) ∙ be_bytes_4 ys (from_be_bytes w32 ys) ys_long ys_small refl))
    (λ same. eq-eqb _ _ (ap (from_be_bytes w32) ((bytes_eq-Decides xs ys).0 same)))

and_true : (a b : Bool) → a ≡ true → b ≡ true → (a && b) ≡ true
and_true a b ha hb = rw (ha, hb) refl

-- Lists are the same if and only if both parts are.
pub equal_parts : (n : ℕ) (xs ys : List ℕ) → (bytes_eq (take n xs) (take n ys) && bytes_eq (drop n xs) (drop n ys)) ≡ bytes_eq xs ys
equal_parts n xs ys =
    let one = bytes_eq (take n xs) (take n ys) in let other = bytes_eq (drop n xs) (drop n ys) in
    both_true (one && other) (bytes_eq xs ys)
    (λ same.
    let parts = and_parts one other same in
    let first = (bytes_eq-Decides (take n xs) (take n ys)).0 parts.0 in
    let last = (bytes_eq-Decides (drop n xs) (drop n ys)).0 parts.1 in
    (bytes_eq-Decides xs ys).1 (sym (take-append-drop n xs) ∙ ap (λ zs. zs ++ drop n xs) first ∙ ap (λ zs. take n ys ++ zs) last ∙ take-append-drop n ys))
    (λ same.
    let all = (bytes_eq-Decides xs ys).0 same in
    and_true one other ((bytes_eq-Decides (take n xs) (take n ys)).1 (ap (take n) all)) ((bytes_eq-Decides (drop n xs) (drop n ys)).1 (ap (drop n) all)))
