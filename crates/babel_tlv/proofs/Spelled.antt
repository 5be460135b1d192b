-- What a list of TLVs spells is split into that list.
use Rattle.std.proofs.Common.{◌≡◌, ℕ, zero, suc, ◌+◌, ◌≤◌, false, ltb, List, [], ◌∷◌, ◌++◌, length, take, None, refl, ap, sym, ◌∙◌, inl, inr, arith, length-append, append_assoc}
use Rattle.std.specs.List.{AllByRecursion, flat_map}
use Rattle.std.proofs.lemmas.Bool.{ltb-false, le-ltb, cases_Bool}
use Rattle.std.proofs.lemmas.List.{take-append-le, take_all, drop_all}
use Rattle.babel_tlv.specs.Place.{Place}
use Rattle.babel_tlv.specs.Spelling.{spelled, spelling, IsTlv, AreInPlace}
use Rattle.babel_tlv.specs.Split.{places_at, fault_at}
use Rattle.babel_tlv.proofs.Steps.{places_at-skip, fault_at-skip}

-- after octets without a fault the walk goes on
pub places_at-append : (skip o : ℕ) (xs ys : List ℕ) → skip ≤ length xs → fault_at skip o xs ≡ None → places_at skip o (xs ++ ys) ≡ places_at skip o xs ++ places_at 0 (o + length xs) ys
places_at-append zero o [] ys within whole = ap (λ n. places_at 0 n ys) (omega arith)
places_at-append (suc skip) o [] ys within whole = absurd (omega arith)
places_at-append (suc skip) o (b ∷ xs) ys within whole =
    places_at-append skip (o + 1) xs ys (omega arith) whole ∙ ap (λ n. places_at skip (o + 1) xs ++ places_at 0 n ys) (omega arith)
places_at-append zero o (zero ∷ xs) ys within whole =
    ap (λ ts. record { offset = o; kind = 0; payload = [] } ∷ ts) (
    places_at-append 0 (o + 1) xs ys (omega arith) whole ∙ ap (λ n. places_at 0 (o + 1) xs ++ places_at 0 n ys) (omega arith))
places_at-append zero o (suc k ∷ []) ys within whole = cc
places_at-append zero o (suc k ∷ len ∷ xs) ys within whole =
    elim (cases_Bool (ltb (length xs) len)) [
      | inl runs_past ↦ let fault = rw runs_past at whole in cc
      | inr fits ↦
          let le : len ≤ length xs = ltb-false _ _ fits in
          let fits' : ltb (length (xs ++ ys)) len ≡ false = le-ltb _ _ (omega (arith, length-append xs ys)) in
          rw (fits, fits', take-append-le len xs ys le) (
          ap (λ ts. record { offset = o; kind = suc k; payload = take len xs } ∷ ts) (
          places_at-append len (o + 2) xs ys le (rw fits at whole) ∙ ap (λ n. places_at len (o + 2) xs ++ places_at 0 n ys) (omega arith)))
    ]

pub fault_at-append : (skip o : ℕ) (xs ys : List ℕ) → skip ≤ length xs → fault_at skip o xs ≡ None → fault_at skip o (xs ++ ys) ≡ fault_at 0 (o + length xs) ys
fault_at-append zero o [] ys within whole = ap (λ n. fault_at 0 n ys) (omega arith)
fault_at-append (suc skip) o [] ys within whole = absurd (omega arith)
fault_at-append (suc skip) o (b ∷ xs) ys within whole =
    fault_at-append skip (o + 1) xs ys (omega arith) whole ∙ ap (λ n. fault_at 0 n ys) (omega arith)
fault_at-append zero o (zero ∷ xs) ys within whole =
    fault_at-append 0 (o + 1) xs ys (omega arith) whole ∙ ap (λ n. fault_at 0 n ys) (omega arith)
fault_at-append zero o (suc k ∷ []) ys within whole = cc
fault_at-append zero o (suc k ∷ len ∷ xs) ys within whole =
    elim (cases_Bool (ltb (length xs) len)) [
      | inl runs_past ↦ let fault = rw runs_past at whole in cc
      | inr fits ↦
          let le : len ≤ length xs = ltb-false _ _ fits in
          let fits' : ltb (length (xs ++ ys)) len ≡ false = le-ltb _ _ (omega (arith, length-append xs ys)) in
          rw fits' (fault_at-append len (o + 2) xs ys le (rw fits at whole) ∙ ap (λ n. fault_at 0 n ys) (omega arith))
    ]

-- one TLV is split into itself
pub places_at-spelled : (o kind : ℕ) (payload : List ℕ) → (kind ≡ 0 → payload ≡ []) → places_at 0 o (spelled kind payload) ≡ record { offset = o; kind = kind; payload = payload } ∷ []
places_at-spelled o zero payload bare = ap (λ p. record { offset = o; kind = 0; payload = p } ∷ []) (sym (bare refl))
places_at-spelled o (suc k) payload bare =
    let fits : ltb (length payload) (length payload) ≡ false = le-ltb _ _ (omega arith) in
    rw (fits, take_all (length payload) payload (omega arith), places_at-skip (length payload) (o + 2) payload (omega arith), drop_all (length payload) payload (omega arith)) refl

pub fault_at-spelled : (o kind : ℕ) (payload : List ℕ) → fault_at 0 o (spelled kind payload) ≡ None
fault_at-spelled o zero payload = refl
fault_at-spelled o (suc k) payload =
    let fits : ltb (length payload) (length payload) ≡ false = le-ltb _ _ (omega arith) in
    rw (fits, fault_at-skip (length payload) (o + 2) payload (omega arith), drop_all (length payload) payload (omega arith)) refl

-- the TLVs of a list come first, and then the places of the octets after them
pub places_at-all : (o : ℕ) (ts : List Place) (rest : List ℕ) → AllByRecursion IsTlv ts → AreInPlace o ts → places_at 0 o (flat_map spelling ts ++ rest) ≡ ts ++ places_at 0 (o + length (flat_map spelling ts)) rest
places_at-all o [] rest tlvs here = ap (λ n. places_at 0 n rest) (omega arith)
places_at-all o (t ∷ ts) rest tlvs here =
    let size = length (spelling t) in
    let after : o + size + length (flat_map spelling ts) ≡ o + length (spelling t ++ flat_map spelling ts) = omega (arith, length-append (spelling t) (flat_map spelling ts)) in
    let later = places_at-all (o + size) ts rest tlvs.1 here.1 in
    rw (append_assoc (spelling t) (flat_map spelling ts) rest, places_at-append 0 o (spelling t) (flat_map spelling ts ++ rest) (omega arith) (fault_at-spelled o t.kind t.payload), places_at-spelled o t.kind t.payload tlvs.0.pad1_is_bare) (
    ap (λ n. record { offset = n; kind = t.kind; payload = t.payload } ∷ places_at 0 (o + size) (flat_map spelling ts ++ rest)) (sym here.0)
    ∙ ap (λ us. t ∷ us) (later ∙ ap (λ n. ts ++ places_at 0 n rest) after))

pub fault_at-all : (o : ℕ) (ts : List Place) (rest : List ℕ) → fault_at 0 o (flat_map spelling ts ++ rest) ≡ fault_at 0 (o + length (flat_map spelling ts)) rest
fault_at-all o [] rest = ap (λ n. fault_at 0 n rest) (omega arith)
fault_at-all o (t ∷ ts) rest =
    let after : o + length (spelling t) + length (flat_map spelling ts) ≡ o + length (spelling t ++ flat_map spelling ts) = omega (arith, length-append (spelling t) (flat_map spelling ts)) in
    rw (append_assoc (spelling t) (flat_map spelling ts) rest, fault_at-append 0 o (spelling t) (flat_map spelling ts ++ rest) (omega arith) (fault_at-spelled o t.kind t.payload)) (
    fault_at-all (o + length (spelling t)) ts rest ∙ ap (λ n. fault_at 0 n rest) after)
