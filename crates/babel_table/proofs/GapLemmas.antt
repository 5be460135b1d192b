-- Slots with a gap: which slot an item is in, and which items are there when the gap grows or moves.
use Rattle.std.proofs.Common.{◌≡◌, ℕ, zero, suc, ◌+◌, ◌-◌, ◌<◌, ◌≤◌, List, [], ◌∷◌, ◌++◌, length, take, drop, set, remove, slice_get, append_assoc, length-take-le, refl, sym, ap, subst, ◌∙◌, arith}
use Rattle.std.proofs.Math.Seq.{take-set-lt}
use Rattle.std.proofs.lemmas.List.{take-append-drop, take-take, take-append-le, take-set-le, drop-drop, drop_at, drop-take, drop-set-lt, drop-set-add, set-append_left, set-append_right, length-append, length-drop}
use Rattle.std.proofs.lemmas.List.Edits.{take-paste, drop-paste}
use lib.Seq.{paste}
use Rattle.babel_table.specs.Gaps.{around}

module _ {A : Type 0} where
  take_none : (n : ℕ) → ◌≡◌ {A = List A} (take n []) []
  take_none zero = refl
  take_none (suc n) = refl

  drop_none : (n : ℕ) → ◌≡◌ {A = List A} (drop n []) []
  drop_none zero = refl
  drop_none (suc n) = refl

  around_none : (g h : ℕ) → ◌≡◌ {A = List A} (around g h []) []
  around_none g h = ap (λ (ys : List A). ys ++ drop (g + h) []) (take_none g) ∙ drop_none (g + h)

  around_cons : (g h : ℕ) (x : A) (xs : List A) → around (suc g) h (x ∷ xs) ≡ x ∷ around g h xs
  around_cons g h x xs =
      let later : suc g + h ≡ suc (g + h) = omega arith in
      ap (λ n. x ∷ (take g xs ++ drop n (x ∷ xs))) later

  pub length_around : (g h : ℕ) (xs : List A) → g + h ≤ length xs → length (around g h xs) + h ≡ length xs
  length_around g h xs within =
      omega (arith, length-append (take g xs) (drop (g + h) xs), length-take-le g xs (omega (arith, within)), length-drop (g + h) xs, within)

  -- ---- the slot of an item
  get_dropped : (h : ℕ) (xs : List A) (i : ℕ) → slice_get (drop h xs) i ≡ slice_get xs (h + i)
  get_dropped zero xs i = ap (slice_get xs) (omega arith)
  get_dropped (suc h) [] i = refl
  get_dropped (suc h) (x ∷ xs) i =
      let later : suc (h + i) ≡ suc h + i = omega arith in
      get_dropped h xs i ∙ ap (slice_get (x ∷ xs)) later

  pub get_after : (g h : ℕ) (xs : List A) (i s : ℕ) → g ≤ i → g ≤ length xs → s ≡ i + h → slice_get xs s ≡ slice_get (around g h xs) i
  get_after zero h xs i s past within is =
      ap (slice_get xs) (omega (arith, is)) ∙ sym (get_dropped h xs i) ∙ ap (λ n. slice_get (drop n xs) i) (omega arith)
  get_after (suc g) h [] i s past within is = absurd (omega (arith, within))
  get_after (suc g) h (x ∷ xs) zero s past within is = absurd (omega (arith, past))
  get_after (suc g) h (x ∷ xs) (suc i) zero past within is = absurd (omega (arith, is))
  get_after (suc g) h (x ∷ xs) (suc i) (suc s) past within is =
      get_after g h xs i s (omega (arith, past)) (omega (arith, within)) (omega (arith, is))
      ∙ ap (λ ys. slice_get ys (suc i)) (sym (around_cons g h x xs))

  pub set_before : (g h : ℕ) (xs : List A) (i : ℕ) (x : A) → i < g → g ≤ length xs → around g h (set xs i x) ≡ set (around g h xs) i x
  set_before g h xs i x before within =
      ap (λ ys. ys ++ drop (g + h) (set xs i x)) (take-set-lt g xs i x before)
      ∙ ap (λ ys. set (take g xs) i x ++ ys) (drop-set-lt (g + h) xs i x (omega (arith, before)))
      ∙ sym (set-append_left (take g xs) (drop (g + h) xs) i x (omega (arith, before, length-take-le g xs within)))

  pub set_after : (g h : ℕ) (xs : List A) (i s : ℕ) (x : A) → g ≤ i → g ≤ length xs → s ≡ i + h → around g h (set xs s x) ≡ set (around g h xs) i x
  set_after g h xs i s x past within is =
      let slot : g + h + (i - g) ≡ s = omega (arith, past, is) in
      ap (λ ys. ys ++ drop (g + h) (set xs s x)) (take-set-le g xs s x (omega (arith, past, is)))
      ∙ ap (λ ys. take g xs ++ ys) (subst (λ n. drop (g + h) (set xs n x) ≡ set (drop (g + h) xs) (i - g) x) slot (drop-set-add (g + h) xs (i - g) x))
      ∙ sym (set-append_right (take g xs) (drop (g + h) xs) g i x (length-take-le g xs within) past)

  -- ---- the gap grows
  pub widened : (g h : ℕ) (xs : List A) → around g (h + 1) xs ≡ remove (around g h xs) g
  widened zero h xs =
      ap (λ n. drop n xs) (omega arith) ∙ sym (drop-drop 1 h xs) ∙ ap (λ n. drop 1 (drop n xs)) (omega arith)
  widened (suc g) h [] = around_none (suc g) (h + 1) ∙ ap (λ ys. remove ys (suc g)) (sym (around_none (suc g) h))
  widened (suc g) h (x ∷ xs) =
      around_cons g (h + 1) x xs ∙ ap (λ ys. x ∷ ys) (widened g h xs) ∙ ap (λ ys. remove ys (suc g)) (sym (around_cons g h x xs))

  -- ---- the gap moves over n items
  pub moved_on : (g n h : ℕ) (xs : List A) → g + n + h ≤ length xs → around (g + n) h (paste xs g (drop (g + h) xs) n) ≡ around g h xs
  moved_on g n h xs within =
      let ys = drop (g + h) xs in
      let zs = paste xs g ys n in
      let few : n ≤ length ys = omega (arith, length-drop (g + h) xs, within) in
      ap (λ us. us ++ drop (g + n + h) zs) (take-paste xs g ys n (omega (arith, within)) few)
      ∙ ap (λ us. (take g xs ++ take n ys) ++ us)
      (sym (drop-drop h (g + n) zs) ∙ ap (drop h) (drop-paste xs g ys n (omega (arith, within)) few) ∙ drop-drop h (g + n) xs
      ∙ ap (λ m. drop m xs) (omega arith) ∙ sym (drop-drop n (g + h) xs))
      ∙ append_assoc (take g xs) (take n ys) (drop n ys) ∙ ap (λ us. take g xs ++ us) (take-append-drop n ys)

  pub moved_back : (p n h : ℕ) (xs : List A) → p + n + h ≤ length xs → around p h (paste xs (p + h) (drop p xs) n) ≡ around (p + n) h xs
  moved_back p n h xs within =
      let front = take (p + h) xs in
      let moved = take n (drop p xs) in
      let rest = drop (p + h + n) xs in
      let len : length front ≡ p + h = length-take-le (p + h) xs (omega (arith, within)) in
      let whole : paste xs (p + h) (drop p xs) n ≡ front ++ (moved ++ rest) = append_assoc front moved rest in
      ap (around p h) whole
      ∙ ap (λ us. us ++ drop (p + h) (front ++ (moved ++ rest))) (take-append-le p front (moved ++ rest) (omega (arith, len)) ∙ take-take p (p + h) xs (omega arith))
      ∙ ap (λ us. take p xs ++ us) (drop_at front (moved ++ rest) (p + h) len)
      ∙ sym (append_assoc (take p xs) moved rest)
      ∙ ap (λ us. us ++ rest)
      (ap (λ us. us ++ moved) (sym (take-take p (p + n) xs (omega arith))) ∙ ap (λ us. take p (take (p + n) xs) ++ us) (sym (drop-take p n xs)) ∙ take-append-drop p (take (p + n) xs))
      ∙ ap (λ m. take (p + n) xs ++ drop m xs) (omega arith)
