-- A collection removes what is due, and nothing else.
use Rattle.std.specs.Prelude.{◌≡◌, ◌≤◌, ℕ, suc, Bool, true, false, cond, IsFalse, nat_le, nat_lt, [], ◌∷◌, length, Some, None}
use Rattle.std.specs.Option.{option_map}
use Rattle.std.specs.List.{cons_option}
use Rattle.std.proofs.Common.{refl, ◌∙◌, ap, arith}
use Rattle.std.proofs.lemmas.Bool.Decides.{nat_tests}
use Rattle.babel_sources.specs.Sources.{Sources, collected}

fewer : (now : ℕ) (es : Sources) → length (collected now es) ≤ length es
fewer now [] = omega arith
fewer now (e ∷ es) = by (nat_le e.1.due now) (fewer now es)
  where
    by : (b : Bool) → length (collected now es) ≤ length es → length (cons_option (option_map (λ v. (e.0, v)) (cond b None (Some e.1))) (collected now es)) ≤ length (e ∷ es)
    by true rest = omega (arith, rest)
    by false rest = omega (arith, rest)

too_many : (n m : ℕ) → suc n ≤ m → m ≤ n → ⊥
too_many n m many few = omega (arith, many, few)

-- A collection that leaves as many entries leaves all.
all_left : (now : ℕ) (es : Sources) → length es ≤ length (collected now es) → collected now es ≡ es
all_left now [] many = refl
all_left now (e ∷ es) many = by (nat_le e.1.due now) many (all_left now es)
  where
    by : (b : Bool) → length (e ∷ es) ≤ length (cons_option (option_map (λ v. (e.0, v)) (cond b None (Some e.1))) (collected now es)) →
        (length es ≤ length (collected now es) → collected now es ≡ es) →
        cons_option (option_map (λ v. (e.0, v)) (cond b None (Some e.1))) (collected now es) ≡ e ∷ es
    by true many rest = absurd (too_many (length es) (length (collected now es)) many (fewer now es))
    by false many rest = ap (λ xs. e ∷ xs) (rest (omega (arith, many)))

pub none_collected : (now : ℕ) (old new : Sources) → new ≡ collected now old → IsFalse (nat_lt (length new) (length old)) → new ≡ old
none_collected now old new is few = is ∙ all_left now old (many new is few)
  where
    many : (new : Sources) → new ≡ collected now old → IsFalse (nat_lt (length new) (length old)) → length old ≤ length (collected now old)
    many new is few =
        let same : length new ≡ length (collected now old) = ap length is in
        grind (arith, nat_tests)
