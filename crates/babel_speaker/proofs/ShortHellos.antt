-- Interfaces with short Hello intervals.
use Rattle.std.proofs.Common.{◌≡◌, ℕ, ◌≤◌, List, [], ◌∷◌, true, zero, suc, arith, refl, rules, ap, length}
use Rattle.std.specs.Prelude.{IfSome, slice_get, slice_set}
use Rattle.std.proofs.lemmas.Grind.{common_steps}
use Rattle.babel_state.specs.declared.interfaces.InterfaceEntry.{InterfaceEntry}
use Rattle.babel_speaker.specs.ShortHellos.{have_short_hellos}

pub short_at : (xs : List InterfaceEntry) (k : ℕ) → have_short_hellos xs ≡ true → IfSome (slice_get xs k) (λ i. i.hello ≤ 4000)
short_at [] k short = search rules
short_at (x ∷ xs) zero short = grind (arith, common_steps)
short_at (x ∷ xs) (suc k) short =
    let rest : have_short_hellos xs ≡ true = grind (arith, common_steps) in
    let at : IfSome (slice_get xs k) (λ i. i.hello ≤ 4000) = short_at xs k rest in
    grind (arith, common_steps, at)

-- A change that keeps the Hello interval short.
pub short_set : (xs : List InterfaceEntry) (k : ℕ) (i : InterfaceEntry) → have_short_hellos xs ≡ true → i.hello ≤ 4000 → have_short_hellos (slice_set xs k i) ≡ true
short_set [] k i short small = search rules
short_set (x ∷ xs) zero i short small = grind (arith, common_steps)
short_set (x ∷ xs) (suc k) i short small =
    let rest : have_short_hellos xs ≡ true = grind (arith, common_steps) in
    let at : have_short_hellos (slice_set xs k i) ≡ true = short_set xs k i rest small in
    grind (arith, common_steps, at)

pub set_length : (xs : List InterfaceEntry) (k : ℕ) (i : InterfaceEntry) → length (slice_set xs k i) ≡ length xs
set_length [] k i = search rules
set_length (x ∷ xs) zero i = refl
set_length (x ∷ xs) (suc k) i = ap suc (set_length xs k i)
