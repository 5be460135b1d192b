-- What holds of the places and the fault that are found.
use Rattle.std.proofs.Common.{◌≡◌, if◌then◌else◌, subst, ℕ, zero, suc, ◌+◌, ◌-◌, ◌≤◌, ◌<◌, ltb, List, [], ◌∷◌, ◌++◌, length, take, drop, get_or, Option, MatchOption, refl, ap, sym, ◌∙◌, inl, inr, arith, append_assoc}
use Rattle.std.specs.List.{AllByRecursion, flat_map}
use Rattle.std.proofs.lemmas.Bool.{ltb-false, cases_Bool}
use Rattle.std.proofs.lemmas.List.{take-append-drop, length-take-le, drop-drop}
use Rattle.babel_tlv.specs.Place.{Place}
use Rattle.babel_tlv.specs.Spelling.{spelling, IsTlv, AreInPlace, IsSliceOf}
use Rattle.babel_tlv.specs.Split.{places_at, fault_at}

-- a property of Pad1 and of every other TLV among octets is one of each place; `At o bs` is what is known of the octets at an offset
each_place : (P : Place → Type 0) (At : ℕ → List ℕ → Type 0)
    → ((o b : ℕ) (bs : List ℕ) → At o (b ∷ bs) → At (o + 1) bs)
    → ((o : ℕ) (bs : List ℕ) → At o (0 ∷ bs) → P record { offset = o; kind = 0; payload = [] })
    → ((o k len : ℕ) (bs : List ℕ) → At o (suc k ∷ len ∷ bs) → len ≤ length bs → P record { offset = o; kind = suc k; payload = take len bs })
    → (skip o : ℕ) (bs : List ℕ) → At o bs → AllByRecursion P (places_at skip o bs)
each_place P At next pad1 other skip o [] at = tt
each_place P At next pad1 other (suc skip) o (b ∷ bs) at = each_place P At next pad1 other skip (o + 1) bs (next o b bs at)
each_place P At next pad1 other zero o (zero ∷ bs) at =
    (pad1 o bs at, each_place P At next pad1 other zero (o + 1) bs (next o 0 bs at))
each_place P At next pad1 other zero o (suc k ∷ []) at = tt
each_place P At next pad1 other zero o (suc k ∷ len ∷ bs) at =
    elim (cases_Bool (ltb (length bs) len)) [
      | inl runs_past ↦ rw runs_past tt
      | inr fits ↦ rw fits (
        other o k len bs at (ltb-false _ _ fits),
        each_place P At next pad1 other len (o + 2) bs (subst (λ n. At n bs) (omega arith) (next (o + 1) len bs (next o (suc k) (len ∷ bs) at))),
      )
    ]

-- there are no more places than octets
pub length-places_at : (skip o : ℕ) (bs : List ℕ) → length (places_at skip o bs) ≤ length bs
length-places_at skip o [] = omega arith
length-places_at (suc skip) o (b ∷ bs) = omega (arith, length-places_at skip (o + 1) bs)
length-places_at zero o (zero ∷ bs) = omega (arith, length-places_at zero (o + 1) bs)
length-places_at zero o (suc k ∷ []) = omega arith
length-places_at zero o (suc k ∷ len ∷ bs) =
    elim (cases_Bool (ltb (length bs) len)) [
      | inl runs_past ↦ rw runs_past (omega arith)
      | inr fits ↦ rw fits (omega (arith, length-places_at len (o + 2) bs))
    ]

-- among octets each place is a TLV
pub places_at-IsTlv : (o : ℕ) (bs : List ℕ) → ((k : ℕ) → get_or bs k 0 < 256) → AllByRecursion IsTlv (places_at 0 o bs)
places_at-IsTlv =
    each_place IsTlv (λ o bs. (k : ℕ) → get_or bs k 0 < 256) (λ o b bs octets k. octets (suc k))
    (λ o bs octets. record { kind_fits = octets 0; payload_fits = omega arith; pad1_is_bare = λ _. refl })
    (λ o k len bs octets fits. record {
      kind_fits = octets 0;
      payload_fits = let small = octets 1 in omega (arith, length-take-le len bs fits);
      pad1_is_bare = λ pad1. absurd (omega arith);
    })
    0

-- each payload is the slice at its place
pub places_at-IsSliceOf : (all : List ℕ) (o : ℕ) (bs : List ℕ) → drop o all ≡ bs → AllByRecursion (IsSliceOf all) (places_at 0 o bs)
places_at-IsSliceOf all =
    each_place (IsSliceOf all) (λ o bs. drop o all ≡ bs) (λ o b bs at. sym (drop-drop 1 o all) ∙ ap (drop 1) at)
    (λ o bs at. let none : 0 ≡ o + 2 + 0 - (o + 2) = omega arith in ap (λ n. take n (drop (o + 2) all)) none)
    (λ o k len bs at fits.
    ap (take len) (sym (sym (drop-drop 2 o all) ∙ ap (drop 2) at)) ∙ ap (λ n. take n (drop (o + 2) all)) (omega (arith, length-take-le len bs fits)))
    0

-- the octets that are left at the fault
abbrev pub left_at : ℕ → List ℕ → List ℕ
left_at skip [] = []
left_at (suc skip) (b ∷ bs) = left_at skip bs
left_at zero (zero ∷ bs) = left_at zero bs
left_at zero (suc k ∷ []) = suc k ∷ []
left_at zero (suc k ∷ len ∷ bs) = if ltb (length bs) len then suc k ∷ len ∷ bs else left_at len bs

-- the octets that the places spell precede those that are left
pub spelled_front : (skip o : ℕ) (bs : List ℕ) → skip ≤ length bs → drop skip bs ≡ flat_map spelling (places_at skip o bs) ++ left_at skip bs
spelled_front zero o [] within = refl
spelled_front (suc skip) o [] within = absurd (omega arith)
spelled_front (suc skip) o (b ∷ bs) within = spelled_front skip (o + 1) bs (omega arith)
spelled_front zero o (zero ∷ bs) within = ap (λ xs. 0 ∷ xs) (spelled_front zero (o + 1) bs (omega arith))
spelled_front zero o (suc k ∷ []) within = refl
spelled_front zero o (suc k ∷ len ∷ bs) within =
    elim (cases_Bool (ltb (length bs) len)) [
      | inl runs_past ↦ rw runs_past refl
      | inr fits ↦ let le : len ≤ length bs = ltb-false _ _ fits in rw (fits, length-take-le len bs le) (
          ap (λ xs. suc k ∷ len ∷ xs) (
          sym (take-append-drop len bs) ∙ ap (λ xs. take len bs ++ xs) (spelled_front len (o + 2) bs le) ∙ sym (append_assoc (take len bs) _ _)))
    ]

abbrev pub IsFaultAt : ℕ → ℕ → Option ℕ → Type 0
IsFaultAt end left f = MatchOption f (left ≡ 0) (λ f. (f + left ≡ end) × (0 < left))

-- the fault is at the first octet that is left
pub fault_at-is : (end skip o : ℕ) (bs : List ℕ) → o + length bs ≡ end → IsFaultAt end (length (left_at skip bs)) (fault_at skip o bs)
fault_at-is end skip o [] ends = refl
fault_at-is end (suc skip) o (b ∷ bs) ends = fault_at-is end skip (o + 1) bs (omega arith)
fault_at-is end zero o (zero ∷ bs) ends = fault_at-is end 0 (o + 1) bs (omega arith)
fault_at-is end zero o (suc k ∷ []) ends = (ends, omega arith)
fault_at-is end zero o (suc k ∷ len ∷ bs) ends =
    elim (cases_Bool (ltb (length bs) len)) [
      | inl runs_past ↦ rw runs_past (ends, omega arith)
      | inr fits ↦ rw fits (fault_at-is end len (o + 2) bs (omega arith))
    ]

-- each place begins at the end of the one before it
pub places_at-AreInPlace : (skip o at : ℕ) (bs : List ℕ) → skip ≤ length bs → at ≡ o + skip → AreInPlace at (places_at skip o bs)
places_at-AreInPlace skip o at [] within here = tt
places_at-AreInPlace (suc skip) o at (b ∷ bs) within here = places_at-AreInPlace skip (o + 1) at bs (omega arith) (omega arith)
places_at-AreInPlace zero o at (zero ∷ bs) within here = (omega arith, places_at-AreInPlace zero (o + 1) (at + 1) bs (omega arith) (omega arith))
places_at-AreInPlace zero o at (suc k ∷ []) within here = tt
places_at-AreInPlace zero o at (suc k ∷ len ∷ bs) within here =
    elim (cases_Bool (ltb (length bs) len)) [
      | inl runs_past ↦ rw runs_past tt
      | inr fits ↦ let le : len ≤ length bs = ltb-false _ _ fits in
          rw fits (omega arith, places_at-AreInPlace len (o + 2) _ bs le (omega (arith, length-take-le len bs le)))
    ]
