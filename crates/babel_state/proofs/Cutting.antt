-- Items that are queued one after the other leave what all of them at once leave.
use Rattle.std.specs.Prelude.{◌≡◌, ◌+◌, ◌-◌, ◌<◌, ◌≤◌, ◌^◌, ℕ, List, [], ◌∷◌, ◌++◌, length, drop}
use Rattle.std.proofs.Common.{refl, sym, ap, ◌∙◌, arith, append_assoc, length-append, length-drop}
use Rattle.std.proofs.lemmas.List.{append-nil, drop-append-le, drop-drop}
use Rattle.babel_state.specs.declared.items.Item.{Item}
use Rattle.babel_state.specs.Queueing.{Pending, counted, last_ones, queued, queued_at_once}

-- What is cut in two steps.
cut_twice : (n k : ℕ) (l xs : List Item) → k ≡ length l - n →
    drop (length (drop k l ++ xs) - n) (drop k l ++ xs) ≡ drop (length (l ++ xs) - n) (l ++ xs)
cut_twice n k l xs is =
    let short : k ≤ length l = omega arith in
    let joined : drop k l ++ xs ≡ drop k (l ++ xs) = sym (drop-append-le k l xs short) in
    let sums : k + (length (drop k (l ++ xs)) - n) ≡ length (l ++ xs) - n =
    omega (arith, is, length-drop k (l ++ xs), length-append l xs)
    in
    ap (λ ys. drop (length ys - n) ys) joined ∙ drop-drop (length (drop k (l ++ xs)) - n) k (l ++ xs) ∙ ap (λ m. drop m (l ++ xs)) sums

keep_twice : (n : ℕ) (l xs : List Item) → last_ones n (last_ones n l ++ xs) ≡ last_ones n (l ++ xs)
keep_twice n l xs = cut_twice n (length l - n) l xs refl

-- What is counted in two steps.
count_twice : (d a b : ℕ) → counted (counted d a) b ≡ counted d (a + b)
count_twice d a b = omega arith

cut_lengths : (n : ℕ) (l xs : List Item) →
    (length l - n) + (length (last_ones n l ++ xs) - n) ≡ length (l ++ xs) - n
cut_lengths n l xs =
    omega (arith, length-append (last_ones n l) xs, length-drop (length l - n) l, length-append l xs)

step : (x : Item) (xs : List Item) (old : Pending) →
    queued_at_once xs (queued_at_once (x ∷ []) old) ≡ queued_at_once (x ∷ xs) old
step x xs old =
    let l : List Item = old.items ++ x ∷ [] in
    let joined : l ++ xs ≡ old.items ++ x ∷ xs = append_assoc old.items (x ∷ []) xs in
    let items : last_ones 4096 (last_ones 4096 l ++ xs) ≡ last_ones 4096 (old.items ++ x ∷ xs) =
    keep_twice 4096 l xs ∙ ap (last_ones 4096) joined
    in
    let count : counted (counted old.dropped (length l - 4096)) (length (last_ones 4096 l ++ xs) - 4096) ≡ counted old.dropped (length (old.items ++ x ∷ xs) - 4096) =
    count_twice old.dropped (length l - 4096) (length (last_ones 4096 l ++ xs) - 4096)
    ∙ ap (counted old.dropped) (cut_lengths 4096 l xs ∙ ap (λ ys. length ys - 4096) joined)
    in λ i. record { items = items i; dropped = count i }

-- Nothing is queued.
none : (old : Pending) → length old.items ≤ 4096 → old.dropped < 2 ^ 64 → old ≡ queued_at_once [] old
none old few small =
    let joined : old.items ++ [] ≡ old.items = append-nil old.items in
    let no_cut : length (old.items ++ []) - 4096 ≡ 0 = omega (arith, few, ap length joined) in
    let items : last_ones 4096 (old.items ++ []) ≡ old.items = ap (λ k. drop k (old.items ++ [])) no_cut ∙ joined in
    let count : counted old.dropped (length (old.items ++ []) - 4096) ≡ old.dropped = omega (arith, no_cut, small) in
    sym (λ i. record { items = items i; dropped = count i })

few_after : (x : Item) (old : Pending) → length (queued_at_once (x ∷ []) old).items ≤ 4096
few_after x old = omega (arith, length-drop (length (old.items ++ x ∷ []) - 4096) (old.items ++ x ∷ []))

pub queueing-cuts : (xs : List Item) (old : Pending) → length old.items ≤ 4096 → old.dropped < 2 ^ 64 → queued xs old ≡ queued_at_once xs old
unfolding queued
queueing-cuts [] old few small = none old few small
queueing-cuts (x ∷ xs) old few small =
    queueing-cuts xs (queued_at_once (x ∷ []) old) (few_after x old) (omega arith) ∙ step x xs old
