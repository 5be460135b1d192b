-- What is written in few octets is read as it was meant.
use Rattle.std.proofs.Common.{◌≡◌, ℕ, zero, suc, ◌+◌, ◌-◌, ◌*◌, ◌<◌, ◌≤◌, Bool, true, false, List, [], ◌∷◌, ◌++◌, length, take, drop, get_or, replicate, Option, Some, None, nat_eq, nat_le, refl, ap, sym, ◌∙◌, arith, inl, inr, length-drop, if◌then◌else◌}
use Rattle.std.proofs.lemmas.List.{length-take-le, get_or-take, get_or-drop, get_or-append-add, drop_all}
use Rattle.std.proofs.lemmas.List.FromFn.{fill_by_all}
use Rattle.std.proofs.lemmas.Bool.{lt-ltb, le-ltb, le-leb, cases_lt, eqb-true}
use Rattle.babel_value.specs.Prefixes.{cleared}
use Rattle.babel_packet.specs.Prefixes.{octets_of, prefix_octet, prefix_octets, is_whole}
use Rattle.babel_packet.specs.Encodable.{AreOctets}
use Rattle.babel_packet.specs.UpdateFields.{written, is_readable, address}
use Rattle.babel_packet.specs.Compressed.{common, omitted, update_fields}
use Rattle.babel_packet.proofs.Layouts.{zeros_following}

-- The common leading octets are the same, and no more than there are.
same_from : (x y : ℕ) (xs ys : List ℕ) (j : ℕ) (b : Bool) → nat_eq x y ≡ b → ((i : ℕ) → i < common xs ys → get_or xs i 0 ≡ get_or ys i 0) →
    j < (if b then suc (common xs ys) else 0) → get_or (x ∷ xs) j 0 ≡ get_or (y ∷ ys) j 0
same_from x y xs ys zero true e rest near = eqb-true x y e
same_from x y xs ys (suc j) true e rest near = rest j (omega (arith, near))
same_from x y xs ys j false e rest near = absurd (omega (arith, near))

common_same : (xs ys : List ℕ) (j : ℕ) → j < common xs ys → get_or xs j 0 ≡ get_or ys j 0
common_same [] ys j near = absurd (omega (arith, near))
common_same (x ∷ xs) [] j near = absurd (omega (arith, near))
common_same (x ∷ xs) (y ∷ ys) j near = same_from x y xs ys j (nat_eq x y) refl (common_same xs ys) near

short_from : (n m : ℕ) (b : Bool) → n ≤ m → (if b then suc n else 0) ≤ suc m
short_from n m true le = omega (arith, le)
short_from n m false le = omega arith

common_short : (xs ys : List ℕ) → common xs ys ≤ length xs
common_short [] ys = omega arith
common_short (x ∷ xs) [] = omega arith
common_short (x ∷ xs) (y ∷ ys) = short_from (common xs ys) (length xs) (nat_eq x y) (common_short xs ys)

-- what the omitted octets are taken from
record Base (size n : ℕ) (default : Option (List ℕ)) (w : List ℕ) : Type 0 where
  octets : List ℕ
  found : (if nat_eq n 0 then Some (replicate size 0) else default) ≡ Some octets
  same : (j : ℕ) → j < n → get_or w j 0 ≡ get_or octets j 0

base_none : (size n : ℕ) (default : Option (List ℕ)) (w : List ℕ) → n ≡ 0 → Base size n default w
base_none size n default w none = record {
  octets = replicate size 0;
  found = rw none refl;
  same = λ j near. absurd (omega (arith, none, near));
}

base_some : (size : ℕ) (default w : List ℕ) (b : Bool) → nat_eq (common w default) 0 ≡ b → Base size (common w default) (Some default) w
base_some size default w true e = base_none size (common w default) (Some default) w (eqb-true (common w default) 0 e)
base_some size default w false e = record { octets = default; found = rw e refl; same = common_same w default }

base_of_omitted : (size : ℕ) (default : Option (List ℕ)) (w : List ℕ) → Base size (omitted default w) default w
base_of_omitted size None w = base_none size 0 None w refl
base_of_omitted size (Some default) w = base_some size default w (nat_eq (common w default) 0) refl

omitted_short : (default : Option (List ℕ)) (w : List ℕ) → omitted default w ≤ length w
omitted_short None w = omega arith
omitted_short (Some default) w = common_short w default

-- An octet of a prefix, the first n of which are those of the base.
octet_again : (base o front : List ℕ) (n bits j : ℕ) → length front ≡ 10 → octets_of bits ≤ length o → n ≤ octets_of bits →
    ((i : ℕ) → i < n → get_or (take (octets_of bits) o) i 0 ≡ get_or base i 0) → (octets_of bits ≤ j → get_or o j 0 ≡ 0) →
    get_or o j 0 ≡ prefix_octet base n bits 10 (front ++ drop n (take (octets_of bits) o)) j
octet_again base o front n bits j size long few same zeros =
    let w = take (octets_of bits) o in
    elim (cases_lt j (octets_of bits)) [
      | inl within ↦
          let at : get_or w j 0 ≡ get_or o j 0 = get_or-take (octets_of bits) o j 0 within in
          elim (cases_lt j n) [
            | inl before ↦ rw (lt-ltb _ _ within, lt-ltb _ _ before) (sym at ∙ same j before)
            | inr from ↦
                let here : 10 + j - n ≡ length front + (j - n) = omega (arith, size, from) in
                let back : n + (j - n) ≡ j = omega (arith, from) in
                rw (lt-ltb _ _ within, le-ltb _ _ from, here, get_or-append-add front (drop n w) (j - n) 0, get_or-drop n w (j - n) 0, back) (sym at)
          ]
      | inr past ↦ rw (le-ltb _ _ past) (zeros past)
    ]

-- what is needed of the octets of a prefix's address
pub record IsClear (size bits : ℕ) (o : List ℕ) : Type 0 where
  pub long : length o ≡ size
  pub small : AreOctets o
  pub short : bits ≤ 8 * size
  pub clear : cleared bits o ≡ o

-- the payload of an Update of these octets
abbrev pub payload : ℕ → ℕ → ℕ → Option (List ℕ) → ℕ → ℕ → ℕ → List ℕ → List ℕ
payload ae flags bits default interval seqno metric o =
    let w = take (octets_of bits) o in
    update_fields ae flags bits (omitted default w) interval seqno metric (drop (omitted default w) w)

-- It is whole, its prefix is read again, and nothing is left over after it.
pub record Reads (size : ℕ) (default : Option (List ℕ)) (o p : List ℕ) : Type 0 where
  pub long : nat_le 10 (length p) ≡ true
  pub whole : is_readable size p ≡ true
  pub again : address size default p ≡ Some o
  pub none : drop (10 + written p) p ≡ []

pub reads : (size ae flags bits : ℕ) (default : Option (List ℕ)) (interval seqno metric : ℕ) (o : List ℕ) → IsClear size bits o →
    Reads size default o (payload ae flags bits default interval seqno metric o)
unfolding is_whole address prefix_octets
reads size ae flags bits default interval seqno metric o is =
    let k = octets_of bits in
    let w = take k o in
    let n = omitted default w in
    let front = update_fields ae flags bits n interval seqno metric [] in
    let p = payload ae flags bits default interval seqno metric o in
    let base = base_of_omitted size default w in
    let fits : k ≤ length o = omega (arith, is.long, is.short) in
    let w_size : length w ≡ k = length-take-le k o fits in
    let few : n ≤ k = omega (arith, w_size, omitted_short default w) in
    let rest : length (drop n w) ≡ k - n = length-drop n w ∙ omega (arith, w_size) in
    let there : 10 + (k - n) ≤ length p = omega (arith, rest) in
    let f = prefix_octet base.octets n bits 10 p in
    let same = fill_by_all f o size 0 is.long (λ j _. octet_again base.octets o front n bits j refl fits few base.same (zeros_following bits o is.small is.clear j)) in
    record {
      long = le-leb _ _ (omega (arith, rest));
      whole = rw (le-leb _ _ is.short, le-leb _ _ there) refl;
      again = rw base.found (ap (λ octets. Some (cleared bits octets)) (sym same) ∙ ap Some is.clear);
      none = drop_all (10 + (k - n)) p (omega (arith, rest));
    }
