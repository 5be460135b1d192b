-- Items that are moved from one queue to another.
use Rattle.std.specs.Prelude.{◌≡◌, ◌+◌, ◌≤◌, ℕ, zero, suc, List, [], ◌∷◌, ◌++◌, filter, map, take, drop, length, slice_get, Some, true, false}
use Rattle.circular_buffer.specs.Buffer.{keep_last}
use Rattle.std.proofs.Common.{refl, sym, ap, ◌∙◌, arith, length-append, append_assoc}
use Rattle.std.proofs.lemmas.List.{append-nil}
use Rattle.std.proofs.lemmas.List.Elements.{filter-append}
use Rattle.std.proofs.lemmas.List.Filters.{length-filter_both}
use Rattle.std.proofs.lemmas.Option.{none-some, same_Some}
use Rattle.babel_value.specs.Prefixes.{PrefixValue}
use Rattle.babel_choice.proofs.RunLemmas.{drop_at}
use Rattle.babel_state.specs.declared.items.Item.{Item}
use Rattle.babel_state.specs.declared.items.Item.TheVariants.{Update}
use Rattle.babel_state.specs.declared.items.Target.{Target}
use Rattle.babel_state.specs.Grouping.{item_target, goes_to, goes_elsewhere, first_group, other_items, in_groups, items_grouped}
use Rattle.babel_state.specs.KeptRoutes.{KeepsRoutes}
use Rattle.babel_state.specs.State.{State}
use Rattle.babel_state.specs.StepLaws.{kept_of}
use Rattle.babel_state.proofs.Grouping.{grouped_kept}
use Rattle.babel_state.proofs.KeptRoutes.{kept_routes}
use Rattle.babel_state.proofs.Targets.{target_itself}
use Rattle.babel_speaker.proofs.Runs.{all_kept}

-- The first item of a queue is moved to the end of another one that has room for it.
pub item_moved : (to from : List Item) (x : Item) → slice_get from 0 ≡ Some x → length to + length from ≤ 4096 →
    keep_last 4096 (to ++ x ∷ []) ++ drop 1 from ≡ to ++ from
item_moved to from x first few =
    let next = drop_at from 0 x first in
    let kept = all_kept 4096 (to ++ x ∷ []) (omega (arith, few, ap length next, length-append to (x ∷ []))) in
    ap (λ l. l ++ drop 1 from) kept ∙ append_assoc to (x ∷ []) (drop 1 from) ∙ ap (λ l. to ++ l) (sym next)

pub first_taken : (xs : List Item) (x : Item) → slice_get xs 0 ≡ Some x → take 1 xs ≡ x ∷ []
first_taken xs x first = ap (take 1) (drop_at xs 0 x first)

-- ---- a group is moved

-- What is left of a queue after its first item was moved, and what the other queue has then.
abbrev pub turned : Target → List Item → List Item
turned target from = drop 1 from ++ filter (goes_elsewhere target) (take 1 from)

abbrev pub taken : Target → List Item → List Item → List Item
taken target from to = to ++ filter (goes_to target) (take 1 from)

-- No item is there.
pub nothing_turned : (target : Target) (from to : List Item) → from ≡ [] → (from ≡ turned target from) × (to ≡ taken target from to)
nothing_turned target from to none = (none ∙ sym (ap (turned target) none), sym (ap (λ l. taken target l to) none ∙ append-nil to))

-- The first item goes to the target.
pub first_goes : (target : Target) (from to : List Item) (x : Item) → slice_get from 0 ≡ Some x → goes_to target x ≡ true → length to + length from ≤ 4096 →
    (drop 1 from ≡ turned target from) × (keep_last 4096 (to ++ x ∷ []) ≡ taken target from to)
first_goes target from to x first goes few =
    let one = first_taken from x first in
    let elsewhere : filter (goes_elsewhere target) (take 1 from) ≡ [] = ap (filter (goes_elsewhere target)) one ∙ rw goes refl in
    let there : filter (goes_to target) (take 1 from) ≡ x ∷ [] = ap (filter (goes_to target)) one ∙ rw goes refl in (
      sym (append-nil (drop 1 from)) ∙ ap (λ l. drop 1 from ++ l) (sym elsewhere),
      all_kept 4096 (to ++ x ∷ []) (omega (arith, few, ap length (drop_at from 0 x first), length-append to (x ∷ []))) ∙ ap (λ l. to ++ l) (sym there),
    )

-- It goes elsewhere.
pub first_stays : (target : Target) (from to : List Item) (x : Item) → slice_get from 0 ≡ Some x → goes_to target x ≡ false → length to + length from ≤ 4096 →
    (keep_last 4096 (drop 1 from ++ x ∷ []) ≡ turned target from) × (to ≡ taken target from to)
first_stays target from to x first goes few =
    let one = first_taken from x first in
    let elsewhere : filter (goes_elsewhere target) (take 1 from) ≡ x ∷ [] = ap (filter (goes_elsewhere target)) one ∙ rw goes refl in
    let there : filter (goes_to target) (take 1 from) ≡ [] = ap (filter (goes_to target)) one ∙ rw goes refl in (
      all_kept 4096 (drop 1 from ++ x ∷ []) (omega (arith, few, ap length (drop_at from 0 x first), length-append (drop 1 from) (x ∷ [])))
          ∙ ap (λ l. drop 1 from ++ l) (sym elsewhere),
      sym (append-nil to) ∙ ap (λ l. to ++ l) (sym there),
    )

-- After so many items: what is left, and what was moved.
abbrev pub sorted_out : Target → ℕ → List Item → List Item → List Item × List Item
sorted_out target zero from to = (from, to)
sorted_out target (suc n) from to = sorted_out target n (turned target from) (taken target from to)

all_sorted_out : (target : Target) (xs later to : List Item) →
    sorted_out target (length xs) (xs ++ later) to ≡ (later ++ filter (goes_elsewhere target) xs, to ++ filter (goes_to target) xs)
all_sorted_out target [] later to = λ i. (sym (append-nil later) i, sym (append-nil to) i)
all_sorted_out target (x ∷ xs) later to =
    let elsewhere : List Item → List Item = filter (goes_elsewhere target) in
    let there : List Item → List Item = filter (goes_to target) in
    ap (λ l. sorted_out target (length xs) l (to ++ there (x ∷ []))) (append_assoc xs later (elsewhere (x ∷ [])))
    ∙ all_sorted_out target xs (later ++ elsewhere (x ∷ [])) (to ++ there (x ∷ []))
    ∙ (λ i. (append_assoc later (elsewhere (x ∷ [])) (elsewhere xs) i, append_assoc to (there (x ∷ [])) (there xs) i))
    ∙ (λ i. (later ++ sym (filter-append (goes_elsewhere target) (x ∷ []) xs) i, to ++ sym (filter-append (goes_to target) (x ∷ []) xs) i))

-- After all of them.
pub group_sorted_out : (target : Target) (xs to : List Item) →
    sorted_out target (length xs) xs to ≡ (filter (goes_elsewhere target) xs, to ++ filter (goes_to target) xs)
group_sorted_out target xs to = ap (λ l. sorted_out target (length xs) l to) (sym (append-nil xs)) ∙ all_sorted_out target xs [] to

-- One item more is sorted out.
pub one_sorted_out : (target : Target) (n m : ℕ) (from to from2 to2 : List Item) → n ≡ suc m → from2 ≡ turned target from → to2 ≡ taken target from to →
    sorted_out target m from2 to2 ≡ sorted_out target n from to
one_sorted_out target n m from to from2 to2 more left moved =
    (λ i. sorted_out target m (left i) (moved i)) ∙ ap (λ k. sorted_out target k from to) (sym more)

-- The first group is what goes where the first item goes.
pub group_of_first : (xs : List Item) (x : Item) → slice_get xs 0 ≡ Some x →
    (filter (goes_elsewhere (item_target x)) xs ≡ other_items xs) × (filter (goes_to (item_target x)) xs ≡ first_group xs)
group_of_first [] x at = absurd (none-some x at)
group_of_first (y ∷ ys) x at =
    let same : x ≡ y = sym (same_Some y x at) in
    (ap (λ z. filter (goes_elsewhere (item_target z)) (y ∷ ys)) same, ap (λ z. filter (goes_to (item_target z)) (y ∷ ys)) same)

-- All of a queue was sorted out.
pub group_moved : (target : Target) (xs to from2 to2 : List Item) (x : Item) (left : ℕ) → target ≡ item_target x → slice_get xs 0 ≡ Some x → left ≡ 0 →
    sorted_out target left from2 to2 ≡ sorted_out target (length xs) xs to → (from2 ≡ other_items xs) × (to2 ≡ to ++ first_group xs)
group_moved target xs to from2 to2 x left is first none done =
    let all : (from2, to2) ≡ (filter (goes_elsewhere target) xs, to ++ filter (goes_to target) xs) =
    ap (λ k. sorted_out target k from2 to2) (sym none) ∙ done ∙ group_sorted_out target xs to
    in
    let parts = group_of_first xs x first in (
      ap (λ p. p.0) all ∙ ap (λ t. filter (goes_elsewhere t) xs) is ∙ parts.0,
      ap (λ p. p.1) all ∙ ap (λ t. to ++ filter (goes_to t) xs) is ∙ ap (λ l. to ++ l) parts.1,
    )

-- None is lost.
pub none_is_lost : (target : Target) (from to : List Item) → length (taken target from to) + length (turned target from) ≡ length to + length from
none_is_lost target [] to = ap (λ l. length l + 0) (append-nil to)
none_is_lost target (x ∷ xs) to =
    let one = length-filter_both (goes_to target) (goes_elsewhere target) (λ y. refl) (x ∷ []) in
    omega (arith, one, length-append to (filter (goes_to target) (x ∷ [])), length-append xs (filter (goes_elsewhere target) (x ∷ [])))

-- ---- groups

pub none_grouped : (n : ℕ) → in_groups n [] ≡ []
none_grouped zero = refl
none_grouped (suc n) = none_grouped n

-- No group is made any more.
pub rest_stays : (n : ℕ) (xs : List Item) → n ≡ 0 → in_groups n xs ≡ xs
rest_stays n xs none = ap (λ k. in_groups k xs) none

-- One more group.
pub one_more_group : (n left : ℕ) (items spare : List Item) → n ≡ suc left → (items ++ first_group spare) ++ in_groups left (other_items spare) ≡ items ++ in_groups n spare
one_more_group n left items spare more =
    append_assoc items (first_group spare) (in_groups left (other_items spare)) ∙ ap (λ k. items ++ in_groups k spare) (sym more)

-- ---- Updates to one target

all_go : (target : Target) (run : List PrefixValue) → filter (goes_to target) (map (Update target) run) ≡ map (Update target) run
all_go target [] = refl
all_go target (p ∷ run) = rw (target_itself target) (ap (λ l. Update target p ∷ l) (all_go target run))

none_goes_elsewhere : (target : Target) (run : List PrefixValue) → filter (goes_elsewhere target) (map (Update target) run) ≡ []
none_goes_elsewhere target [] = refl
none_goes_elsewhere target (p ∷ run) = rw (target_itself target) (none_goes_elsewhere target run)

-- A run is one group.
run_is_grouped : (n : ℕ) (target : Target) (run : List PrefixValue) → in_groups n (map (Update target) run) ≡ map (Update target) run
run_is_grouped zero target run = refl
run_is_grouped (suc n) target [] = none_grouped n
run_is_grouped (suc n) target (p ∷ run) =
    (λ i. all_go target (p ∷ run) i ++ in_groups n (none_goes_elsewhere target (p ∷ run) i))
    ∙ ap (λ l. map (Update target) (p ∷ run) ++ l) (none_grouped n)
    ∙ append-nil (map (Update target) (p ∷ run))

pub run_stays : (items : List Item) (target : Target) (run : List PrefixValue) → items ≡ [] →
    items ++ map (Update target) run ≡ in_groups 64 (items ++ map (Update target) run)
run_stays items target run none =
    let alone : items ++ map (Update target) run ≡ map (Update target) run = ap (λ l. l ++ map (Update target) run) none in
    alone ∙ sym (run_is_grouped 64 target run) ∙ sym (ap (in_groups 64) alone)

-- ---- what stays

pub grouped_routes : (s t : State) → t ≡ items_grouped s → KeepsRoutes s t
grouped_routes s t is = kept_routes s t (ap kept_of is ∙ grouped_kept s)
