-- The items of a run of Updates to one target.
use Rattle.std.specs.Prelude.{◌≡◌, ◌+◌, ◌-◌, ◌<◌, ◌≤◌, ℕ, List, [], ◌∷◌, ◌++◌, map, length, drop, slice_get, Some}
use Rattle.std.specs.List.{drop-map}
use Rattle.circular_buffer.specs.Buffer.{keep_last}
use Rattle.std.proofs.Common.{refl, sym, ap, ◌∙◌, arith, length-append, append_assoc}
use Rattle.std.proofs.lemmas.List.{append-nil, drop_all, length-map, map-append}
use Rattle.babel_value.specs.Prefixes.{PrefixValue}
use Rattle.babel_state.specs.declared.items.Item.{Item}
use Rattle.babel_state.specs.declared.items.Item.TheVariants.{Update}
use Rattle.babel_state.specs.declared.items.Target.{Target}
use Rattle.babel_state.specs.Queueing.{Pending, counted, last_ones, queued}
use Rattle.babel_speaker.specs.PendingItems.{updates_only}
use Rattle.babel_choice.proofs.RunLemmas.{drop_at}

-- What is pending: the items, and then the Updates of the run.
abbrev pub with_run : List Item → Target → List PrefixValue → ℕ → Pending
with_run items target run dropped = record { items = items ++ map (Update target) run; dropped = dropped }

-- Nothing is cut from a list that is short enough.
pub all_kept : {X : Type 0} (n : ℕ) (xs : List X) → length xs ≤ n → keep_last n xs ≡ xs
all_kept n xs few = let none : length xs - n ≡ 0 = omega (arith, few) in ap (λ k. drop k xs) none

longer : (target : Target) (run : List PrefixValue) (prefix : PrefixValue) (dropped : ℕ) →
    with_run [] target (keep_last 4096 (run ++ prefix ∷ [])) (counted dropped (length (run ++ prefix ∷ []) - 4096))
    ≡ queued (Update target prefix ∷ []) (with_run [] target run dropped)
unfolding queued
longer target run prefix dropped =
    let all : List PrefixValue = run ++ prefix ∷ [] in
    let updates : List Item = map (Update target) all in
    let cut : length all - 4096 ≡ length updates - 4096 = ap (λ k. k - 4096) (sym (length-map all (Update target))) in
    let items : map (Update target) (keep_last 4096 all) ≡ last_ones 4096 updates =
    sym (drop-map (Update target) (length all - 4096) all) ∙ ap (λ k. drop k updates) cut
    in
    let at_once : with_run [] target (keep_last 4096 all) (counted dropped (length all - 4096)) ≡ record { items = last_ones 4096 updates; dropped = counted dropped (length updates - 4096) } =
    λ i. record { items = items i; dropped = counted dropped (cut i) }
    in
    at_once
    ∙ ap (λ (l : List Item). record { items = last_ones 4096 l; dropped = counted dropped (length l - 4096) }) (map-append (Update target) run (prefix ∷ []))

-- One more Update at the end of a run.
pub run_grows : (items : List Item) (own target : Target) (run new : List PrefixValue) (prefix : PrefixValue) (dropped after : ℕ) → items ≡ [] → own ≡ target →
    new ≡ keep_last 4096 (run ++ prefix ∷ []) → after ≡ counted dropped (length (run ++ prefix ∷ []) - 4096) →
    with_run items own new after ≡ queued (Update target prefix ∷ []) (with_run items own run dropped)
run_grows items own target run new prefix dropped after none same is counts =
    let grown : with_run items own new after ≡ with_run [] target (keep_last 4096 (run ++ prefix ∷ [])) (counted dropped (length (run ++ prefix ∷ []) - 4096)) =
    λ i. with_run (none i) (same i) (is i) (counts i)
    in
    let old : with_run items own run dropped ≡ with_run [] target run dropped = λ i. with_run (none i) (same i) run dropped in
    grown ∙ longer target run prefix dropped ∙ ap (queued (Update target prefix ∷ [])) (sym old)

-- More Updates at the end of a run, if nothing else is pending.
pub run_extends : (items : List Item) (own target : Target) (run new prefixes : List PrefixValue) (dropped after : ℕ) → items ≡ [] → own ≡ target →
    updates_only own new after ≡ queued (map (Update own) prefixes) (updates_only own run dropped) →
    with_run items own new after ≡ queued (map (Update target) prefixes) (with_run items own run dropped)
run_extends items own target run new prefixes dropped after none same grown =
    ap (λ l. with_run l own new after) none
    ∙ grown
    ∙ ap (λ t. queued (map (Update t) prefixes) (with_run [] own run dropped)) same
    ∙ sym (ap (λ l. queued (map (Update target) prefixes) (with_run l own run dropped)) none)

-- If no Update is left in a run, its target doesn't matter.
pub any_target : (items : List Item) (own target : Target) (run : List PrefixValue) (dropped : ℕ) → run ≡ [] → with_run items target run dropped ≡ with_run items own run dropped
any_target items own target run dropped none =
    ap (λ r. with_run items target r dropped) none ∙ sym (ap (λ r. with_run items own r dropped) none)

-- The first Update of a run is moved to the end of the items.
pub first_moved : (target : Target) (items : List Item) (prefix : PrefixValue) (run : List PrefixValue) → slice_get run 0 ≡ Some prefix → length items + length run ≤ 4096 →
    last_ones 4096 (items ++ Update target prefix ∷ []) ++ map (Update target) (drop 1 run) ≡ items ++ map (Update target) run
first_moved target items prefix run first few =
    let next = drop_at run 0 prefix first in
    let kept = all_kept 4096 (items ++ Update target prefix ∷ []) (omega (arith, few, ap length next, length-append items (Update target prefix ∷ []))) in
    ap (λ l. l ++ map (Update target) (drop 1 run)) kept
    ∙ append_assoc items (Update target prefix ∷ []) (map (Update target) (drop 1 run))
    ∙ ap (λ r. items ++ map (Update target) r) (sym next)

-- The oldest of the items or of the run go, if there are only items or only a run.
pub either_cut : (target : Target) (items : List Item) (run : List PrefixValue) (j k m : ℕ) → (0 < length run → items ≡ []) → (items ≡ [] → m ≡ k) → (run ≡ [] → m ≡ j) →
    drop j items ++ map (Update target) (drop k run) ≡ drop m (items ++ map (Update target) run)
either_cut target items [] j k m only by_run by_items =
    ap (λ l. drop j items ++ map (Update target) l) (drop_all k [] (omega arith))
    ∙ append-nil (drop j items)
    ∙ ap (λ n. drop n items) (sym (by_items refl))
    ∙ ap (drop m) (sym (append-nil items))
either_cut target [] (p ∷ run) j k m only by_run by_items =
    ap (λ l. l ++ map (Update target) (drop k (p ∷ run))) (drop_all j [] (omega arith))
    ∙ sym (drop-map (Update target) k (p ∷ run))
    ∙ ap (λ n. drop n (map (Update target) (p ∷ run))) (sym (by_run refl))
either_cut target (x ∷ items) (p ∷ run) j k m only by_run by_items = let none : x ∷ items ≡ [] = only (omega arith) in cc

-- So both together are no more than there is room for.
pub either_fits : (target : Target) (items : List Item) (run : List PrefixValue) (n : ℕ) → (0 < length run → items ≡ []) → length items ≤ n → length run ≤ n → length (items ++ map (Update target) run) ≤ n
either_fits target items [] n only few fewer = omega (arith, few, ap length (append-nil items))
either_fits target [] (p ∷ run) n only few fewer = omega (arith, fewer, length-map (p ∷ run) (Update target))
either_fits target (x ∷ items) (p ∷ run) n only few fewer = let none : x ∷ items ≡ [] = only (omega arith) in cc
