-- If no selected route changed and no prefix was added, no line is written of them.
use Rattle.std.proofs.Common.{◌≡◌, ℕ, ◌≤◌, Bool, true, false, cond, arith, List, [], ◌∷◌, ◌++◌, map, drop, get_or, length, slice_get, Option, Some, None, Result, Ok, Err, OnOk, refl, sym, ap, ◌∙◌}
use Rattle.std.specs.Option.{option_map, option_map_or}
use Rattle.babel_message.specs.declared.placements.Placed.{Placed}
use Rattle.babel_value.specs.Prefixes.{PrefixValue}
use Rattle.babel_state.specs.declared.notes.Note.{Note}
use Rattle.babel_state.specs.Sameness.{is_same_prefix}
use Rattle.babel_state.specs.State.{State}
use Rattle.babel_state.specs.KeptRoutes.{KeepsRoutes}
use Rattle.babel_state.specs.declared.selected.Choice.{Choice}
use Rattle.babel_replay.specs.Texts.{select_head, selection_line}
use Rattle.babel_replay.specs.Report.{line_after, select_lines}
use Rattle.babel_state.specs.Calls.{choice_of}
use Rattle.babel_replay.specs.Seen.{SeenPrefix, choice_at, is_same_choice, printed, printed_all, stored, with_seen, seen_after, ArePrinted}
use Rattle.babel_replay.proofs.Seeing.{is_itself}

-- ---- what was last printed of each is its selected route

-- If its selected route is what was last printed, there is none for it.
pub no_line : (head : List ℕ) (s : State) (es : List SeenPrefix) (i : ℕ) (got : Option SeenPrefix) (p : PrefixValue) (last : Option Choice) →
    got ≡ slice_get es i → got ≡ Some (p, last) → last ≡ choice_at s p → option_map_or (line_after head s) (slice_get es i) [] ≡ []
no_line head s es i got p last at is kept =
    ap (λ m. option_map_or (line_after head s) m []) (sym at ∙ is)
    ∙ ap (λ b. cond b [] (head ++ selection_line p (choice_at s p))) (ap (is_same_choice (choice_at s p)) kept ∙ is_itself (choice_at s p))

pub no_lines : (time : ℕ) (s : State) (es : List SeenPrefix) → ArePrinted s es → select_lines time s es ≡ []
no_lines time s [] same = refl
no_lines time s (e ∷ es) same =
    let last : e.1 ≡ choice_at s e.0 = ap (λ (l : List SeenPrefix). (get_or l 0 e).1) same in
    ap (λ b. cond b [] (select_head time ++ selection_line e.0 (choice_at s e.0)) ++ select_lines time s es) (ap (is_same_choice (choice_at s e.0)) last ∙ is_itself (choice_at s e.0))
    ∙ no_lines time s es (ap (drop 1) same)

printed_again : (s : State) (es : List SeenPrefix) → ArePrinted s (printed_all s es)
printed_again s [] = refl
printed_again s (e ∷ es) = ap (λ rest. printed s e ∷ rest) (printed_again s es)

-- It stays so while the selected routes do.
pub still_printed : (s t : State) (es : List SeenPrefix) → ArePrinted s es → KeepsRoutes s t → ArePrinted t es
still_printed s t es printed kept =
    printed ∙ ap (λ (f : PrefixValue → Option Choice). map (λ e. (e.0, f e.0)) es) (λ i prefix. option_map choice_of (sym (kept prefix) i))

-- It is so after all were printed.
pub now_printed : (s t : State) (es later : List SeenPrefix) → later ≡ printed_all s es → KeepsRoutes s t → ArePrinted t later
now_printed s t es later printed kept = still_printed s t later (printed ∙ printed_again s es ∙ ap (printed_all s) (sym printed)) kept

-- What holds in any case holds if there was no fault.
pub on_ok : {A E : Type 0} (r : Result A E) (P : Type 0) → P → OnOk r P
on_ok (Ok a) P p = p
on_ok (Err e) P p = tt

-- ---- no prefix was added

with_seen_grows : (p : PrefixValue) (es : List SeenPrefix) → length es ≤ length (with_seen p es)
with_seen_grows p [] = omega arith
with_seen_grows p (e ∷ es) = by (is_same_prefix p e.0) (with_seen_grows p es)
  where
    by : (b : Bool) → length es ≤ length (with_seen p es) → length (e ∷ es) ≤ length (cond b (e ∷ es) (e ∷ with_seen p es))
    by true rest = omega arith
    by false rest = omega (arith, rest)

with_seen_same : (p : PrefixValue) (es : List SeenPrefix) → length (with_seen p es) ≤ length es → with_seen p es ≡ es
with_seen_same p [] few = absurd (omega (arith, few))
with_seen_same p (e ∷ es) few = by (is_same_prefix p e.0) few (with_seen_same p es)
  where
    by : (b : Bool) → length (cond b (e ∷ es) (e ∷ with_seen p es)) ≤ length (e ∷ es) → (length (with_seen p es) ≤ length es → with_seen p es ≡ es) →
        cond b (e ∷ es) (e ∷ with_seen p es) ≡ e ∷ es
    by true few rest = refl
    by false few rest = ap (λ r. e ∷ r) (rest (omega (arith, few)))

seen_grows : (xs : List (Placed × Note)) (es : List SeenPrefix) → length es ≤ length (seen_after xs es)
seen_grows [] es = omega arith
seen_grows (x ∷ xs) es = by (stored x) (seen_grows xs)
  where
    by : (m : Option PrefixValue) → ((fs : List SeenPrefix) → length fs ≤ length (seen_after xs fs)) → length es ≤ length (seen_after xs (option_map_or (λ p. with_seen p es) m es))
    by None grows = grows es
    by (Some p) grows = omega (arith, with_seen_grows p es, grows (with_seen p es))

pub seen_same : (xs : List (Placed × Note)) (es : List SeenPrefix) → length (seen_after xs es) ≤ length es → seen_after xs es ≡ es
seen_same [] es few = refl
seen_same (x ∷ xs) es few = by (stored x) few (seen_same xs)
  where
    by : (m : Option PrefixValue) → length (seen_after xs (option_map_or (λ p. with_seen p es) m es)) ≤ length es →
        ((fs : List SeenPrefix) → length (seen_after xs fs) ≤ length fs → seen_after xs fs ≡ fs) → seen_after xs (option_map_or (λ p. with_seen p es) m es) ≡ es
    by None few same = same es few
    by (Some p) few same =
        same (with_seen p es) (omega (arith, few, with_seen_grows p es))
        ∙ with_seen_same p es (omega (arith, few, seen_grows xs (with_seen p es)))
