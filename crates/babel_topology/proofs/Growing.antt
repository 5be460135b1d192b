-- A plan with one more step.
use Rattle.std.proofs.Common.{◌≡◌, ◌≤◌, ◌<◌, ◌-◌, ℕ, List, [], ◌∷◌, ◌++◌, Some, length, get_or, sym, subst, arith}
use Rattle.std.specs.Prelude.{slice_get}
use Rattle.std.proofs.lemmas.Option.{slice_get-get_or}
use Rattle.std.proofs.lemmas.List.Elements.{All-push}
use Rattle.std.proofs.lemmas.List.Sorted.{IsNonDecreasingBy-push}
use Rattle.babel_topology.specs.declared.topology.Step.{Step}
use Rattle.babel_topology.specs.Plans.{IsInOrder, EndsBy}

-- The last step is the same whatever the default is.
pub same_last : (xs : List Step) (d e : Step) → 0 < length xs → (get_or xs (length xs - 1) d).at ≡ (get_or xs (length xs - 1) e).at
same_last xs d e some =
    let low : length xs - 1 < length xs = omega arith in
    let one : slice_get xs (length xs - 1) ≡ Some (get_or xs (length xs - 1) d) = slice_get-get_or xs (length xs - 1) d low in
    let other : slice_get xs (length xs - 1) ≡ Some (get_or xs (length xs - 1) e) = slice_get-get_or xs (length xs - 1) e low in
    let same : get_or xs (length xs - 1) d ≡ get_or xs (length xs - 1) e = cc in cc

pub order_grows : (old new seen : List Step) (step : Step) (latest : ℕ) → new ≡ old ++ step ∷ [] → seen ≡ old
    → ((d : Step) → 0 < length seen → (get_or seen (length seen - 1) d).at ≡ latest) → latest ≤ step.at → IsInOrder old → IsInOrder new
order_grows old new seen step latest is whole last le inv =
    let Q : List Step → Type 0 = λ xs. (d : Step) → 0 < length xs → (get_or xs (length xs - 1) d).at ≡ latest in
    let ends : (d : Step) → 0 < length old → (get_or old (length old - 1) d).at ≡ latest = subst Q whole last in
    let P : List Step → Type 0 = λ xs. IsInOrder xs in
    subst P (sym is) (IsNonDecreasingBy-push (λ (s : Step). s.at) old step inv
    (λ d h. let same : (get_or old (length old - 1) d).at ≡ latest = ends d h in omega arith))

pub end_grows : (end : ℕ) (old new : List Step) (step : Step) → new ≡ old ++ step ∷ [] → step.at ≤ end → EndsBy end old → EndsBy end new
end_grows end old new step is le inv =
    let P : List Step → Type 0 = λ xs. EndsBy end xs in
    subst P (sym is) (All-push (λ (s : Step). s.at ≤ end) old step inv le)
