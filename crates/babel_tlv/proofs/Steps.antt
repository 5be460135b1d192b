-- One step over octets: the first TLV, and the octets after it.
use Rattle.std.proofs.Common.{◌≡◌, ℕ, zero, suc, ◌+◌, ◌-◌, ◌≤◌, ◌<◌, false, ltb, List, [], ◌∷◌, length, take, drop, Option, Some, None, MatchOption, option_map, refl, ap, sym, ◌∙◌, inl, inr, arith, length-drop}
use Rattle.std.proofs.lemmas.Bool.{ltb-false, cases_Bool}
use Rattle.std.specs.Option.{is_some}
use Rattle.babel_tlv.specs.Place.{fault_if_last}
use Rattle.babel_tlv.specs.Split.{places_at, fault_at, first_of}

-- a walk that skips octets goes on after them
skipped : {X : Type 0} (walk : ℕ → ℕ → List ℕ → X) → ((k o b : ℕ) (bs : List ℕ) → walk (suc k) o (b ∷ bs) ≡ walk k (o + 1) bs) → (skip o : ℕ) (bs : List ℕ) → skip ≤ length bs → walk skip o bs ≡ walk 0 (o + skip) (drop skip bs)
skipped walk step zero o bs within = ap (λ n. walk 0 n bs) (omega arith)
skipped walk step (suc k) o [] within = absurd (omega arith)
skipped walk step (suc k) o (b ∷ bs) within =
    step k o b bs ∙ skipped walk step k (o + 1) bs (omega arith) ∙ ap (λ n. walk 0 n (drop k bs)) (omega arith)

-- both definitions skip so
pub places_at-skip : (skip o : ℕ) (bs : List ℕ) → skip ≤ length bs → places_at skip o bs ≡ places_at 0 (o + skip) (drop skip bs)
places_at-skip = skipped places_at (λ _ _ _ _. refl)

pub fault_at-skip : (skip o : ℕ) (bs : List ℕ) → skip ≤ length bs → fault_at skip o bs ≡ fault_at 0 (o + skip) (drop skip bs)
fault_at-skip = skipped fault_at (λ _ _ _ _. refl)

-- what a walk at o over octets finds, by their first TLV: nothing, or that TLV and the places after it
record Finds (o : ℕ) (bs : List ℕ) (kind : ℕ) (payload rest : List ℕ) : Type 0 where
  pub shorter : length rest < length bs
  pub places : places_at 0 o bs ≡ record { offset = o; kind = kind; payload = payload } ∷ places_at 0 (o + (length bs - length rest)) rest
  pub fault : fault_at 0 o bs ≡ fault_at 0 (o + (length bs - length rest)) rest

-- a TLV other than Pad1 that is whole
whole : (o k len : ℕ) (bs : List ℕ) → len ≤ length bs → ltb (length bs) len ≡ false → Finds o (suc k ∷ len ∷ bs) (suc k) (take len bs) (drop len bs)
whole o k len bs within fits =
    let moved : o + 2 + len ≡ o + (suc (suc (length bs)) - length (drop len bs)) = omega (arith, length-drop len bs) in
    record {
      shorter = omega (arith, length-drop len bs);
      places = rw fits (ap (λ ps. record { offset = o; kind = suc k; payload = take len bs } ∷ ps) (places_at-skip len (o + 2) bs within ∙ ap (λ n. places_at 0 n (drop len bs)) moved));
      fault = rw fits (fault_at-skip len (o + 2) bs within ∙ ap (λ n. fault_at 0 n (drop len bs)) moved);
    }

-- what is found follows from the first TLV alone
finds : (o : ℕ) (bs : List ℕ) → MatchOption (first_of bs) (places_at 0 o bs ≡ []) (λ f. Finds o bs f.0 f.1 f.2)
finds o [] = refl
finds o (zero ∷ bs) =
    let moved : o + 1 ≡ o + (suc (length bs) - length bs) = omega arith in
    record {
      shorter = omega arith;
      places = ap (λ n. record { offset = o; kind = 0; payload = [] } ∷ places_at 0 n bs) moved;
      fault = ap (λ n. fault_at 0 n bs) moved;
    }
finds o (suc k ∷ []) = refl
finds o (suc k ∷ len ∷ bs) =
    elim (cases_Bool (ltb (length bs) len)) [
      | inl runs_past ↦ rw runs_past refl
      | inr fits ↦ rw fits (whole o k len bs (ltb-false _ _ fits) fits)
    ]

-- the first TLV of the octets from o on ends at `end`, and what is found at o is that TLV and then what is found at `end`
pub record GoesTo (bytes : List ℕ) (o kind : ℕ) (payload : List ℕ) (end : ℕ) : Type 0 where
  pub forward : o < end
  pub places : places_at 0 o (drop o bytes) ≡ record { offset = o; kind = kind; payload = payload } ∷ places_at 0 end (drop end bytes)
  pub fault : fault_at 0 o (drop o bytes) ≡ fault_at 0 end (drop end bytes)

-- the same at an offset of octets
pub goes : (bytes : List ℕ) (o kind : ℕ) (payload : List ℕ) (end : ℕ) → o ≤ length bytes → end ≤ length bytes → Some (kind, payload, drop end bytes) ≡ first_of (drop o bytes) → GoesTo bytes o kind payload end
goes bytes o kind payload end from to first =
    let found : Finds o (drop o bytes) kind payload (drop end bytes) = rw (← first) at (finds o (drop o bytes)) in
    let shorter = found.shorter in
    let there : o + (length (drop o bytes) - length (drop end bytes)) ≡ end = omega (arith, length-drop o bytes, length-drop end bytes) in
    record {
      forward = omega (arith, length-drop o bytes, length-drop end bytes);
      places = found.places ∙ ap (λ n. record { offset = o; kind = kind; payload = payload } ∷ places_at 0 n (drop end bytes)) there;
      fault = found.fault ∙ ap (λ n. fault_at 0 n (drop end bytes)) there;
    }

pub reached-stuck : (o : ℕ) (bs : List ℕ) → 0 < length bs → first_of bs ≡ None → fault_if_last (places_at 0 o bs) (fault_at 0 o bs) ≡ Some o
reached-stuck o [] some first = absurd (omega arith)
reached-stuck o (zero ∷ bs) some first = cc
reached-stuck o (suc k ∷ []) some first = refl
reached-stuck o (suc k ∷ len ∷ bs) some first =
    elim (cases_Bool (ltb (length bs) len)) [
      | inl runs_past ↦ rw runs_past refl
      | inr fits ↦ let place = rw fits at first in cc
    ]

-- no image, so no element
pub mapped-None : {X Y : Type 0} (f : X → Y) (x : Option X) (y : Option Y) → option_map f x ≡ y → is_some x ≡ false → y ≡ None
mapped-None f None y image none = sym image
mapped-None f (Some x) y image none = cc
