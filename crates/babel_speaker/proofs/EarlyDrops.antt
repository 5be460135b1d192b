-- Items that are dropped before others are queued, in place of while they are.
use Rattle.std.specs.Prelude.{◌≡◌, ◌+◌, ◌-◌, ◌<◌, ◌≤◌, ◌^◌, ℕ, List, [], ◌++◌, map, length, drop}
use Rattle.std.proofs.Common.{sym, ap, ◌∙◌, arith, length-append, length-drop}
use Rattle.std.proofs.lemmas.List.{drop-append-le, drop-drop, length-map}
use Rattle.circular_buffer.specs.Buffer.{keep_last}
use Rattle.babel_value.specs.Prefixes.{PrefixValue}
use Rattle.babel_state.specs.declared.items.Item.{Item}
use Rattle.babel_state.specs.declared.items.Item.TheVariants.{Update}
use Rattle.babel_state.specs.declared.items.Target.{Target}
use Rattle.babel_state.specs.Queueing.{Pending, counted, last_ones, queued, queued_at_once}
use Rattle.babel_state.proofs.Cutting.{queueing-cuts}
use Rattle.babel_speaker.proofs.Runs.{with_run, either_cut, either_fits}

-- The oldest items are dropped, and counted.
abbrev dropping : ℕ → List Item → ℕ → Pending
dropping k l dropped = record { items = drop k l; dropped = counted dropped k }

cut : (k : ℕ) (l xs : List Item) → k ≤ (length l + length xs) - 4096 → k + (length (drop k (l ++ xs)) - 4096) ≡ length (l ++ xs) - 4096
cut k l xs needed = omega (arith, needed, length-drop k (l ++ xs), length-append l xs)

at_once : (k : ℕ) (l xs : List Item) (dropped : ℕ) → k ≤ length l → k ≤ (length l + length xs) - 4096 →
    queued_at_once xs (dropping k l dropped) ≡ queued_at_once xs (record { items = l; dropped = dropped })
at_once k l xs dropped there needed =
    let joined : drop k l ++ xs ≡ drop k (l ++ xs) = sym (drop-append-le k l xs there) in
    let sums = cut k l xs needed in
    let items : last_ones 4096 (drop k l ++ xs) ≡ last_ones 4096 (l ++ xs) =
    ap (last_ones 4096) joined ∙ drop-drop (length (drop k (l ++ xs)) - 4096) k (l ++ xs) ∙ ap (λ m. drop m (l ++ xs)) sums
    in
    let count : counted (counted dropped k) (length (drop k l ++ xs) - 4096) ≡ counted dropped (length (l ++ xs) - 4096) =
    omega (arith, sums, ap length joined)
    in λ i. record { items = items i; dropped = count i }

dropped_early : (k : ℕ) (l xs : List Item) (dropped : ℕ) → length l ≤ 4096 → dropped < 2 ^ 64 → k ≤ length l → k ≤ (length l + length xs) - 4096 →
    queued xs (dropping k l dropped) ≡ queued xs (record { items = l; dropped = dropped })
dropped_early k l xs dropped few small there needed =
    let fewer : length (drop k l) ≤ 4096 = omega (arith, few, length-drop k l) in
    let smaller : counted dropped k < 2 ^ 64 = omega arith in
    queueing-cuts xs (dropping k l dropped) fewer smaller
    ∙ at_once k l xs dropped there needed
    ∙ sym (queueing-cuts xs (record { items = l; dropped = dropped }) few small)

-- Of the items or of a run the last `room` are kept.
pub room_made : (target : Target) (items left : List Item) (run rest : List PrefixValue) (xs : List Item) (room count dropped after : ℕ) → (0 < length run → items ≡ []) →
    length items ≤ 4096 → length run ≤ 4096 → dropped < 2 ^ 64 → room ≡ 4096 - count → count ≤ length xs →
    left ≡ keep_last room items → rest ≡ keep_last room run → after ≡ counted dropped ((length items - room) + (length run - room)) →
    queued xs (with_run left target rest after) ≡ queued xs (with_run items target run dropped)
room_made target items left run rest xs room count dropped after only few fewer small makes enough is_left is_rest counts =
    let k : ℕ = (length items - room) + (length run - room) in
    let l : List Item = items ++ map (Update target) run in
    let kept : left ++ map (Update target) rest ≡ drop k l =
    (λ i. is_left i ++ map (Update target) (is_rest i))
    ∙ either_cut target items run (length items - room) (length run - room) k only (λ none. omega (arith, ap length none)) (λ none. omega (arith, ap length none))
    in
    let long : length l ≡ length items + length run = omega (arith, length-append items (map (Update target) run), length-map run (Update target)) in
    ap (queued xs) (λ i. record { items = kept i; dropped = counts i })
    ∙ dropped_early k l xs dropped (either_fits target items run 4096 only few fewer) small (omega (arith, long)) (omega (arith, long, makes, enough))
