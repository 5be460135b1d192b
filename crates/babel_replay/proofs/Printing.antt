-- Lists whose items are taken one after another, by their index.
use Rattle.std.proofs.Common.{◌≡◌, ℕ, zero, suc, ◌+◌, List, [], ◌∷◌, ◌++◌, map, take, drop, slice_get, flat_map, Option, Some, None, refl, sym, ap, ◌∙◌, subst, add-one}
use Rattle.std.specs.Option.{option_map_or}
use Rattle.std.specs.Io.KnownBytes.{Appends}
use Rattle.indexmap.specs.IndexMap.{set_value_at}
use Rattle.babel_state.specs.State.{State}
use Rattle.babel_replay.specs.Seen.{SeenPrefix, printed, choice_printed}
use Rattle.babel_replay.specs.Report.{select_line, select_lines}
use Rattle.babel_replay.proofs.Writing.{IsWritten, more}

-- ---- what is written of each

line_at_index : {X : Type 0} (f : X → List ℕ) (xs : List X) (i : ℕ) → flat_map f (drop i xs) ≡ option_map_or f (slice_get xs i) [] ++ flat_map f (drop (suc i) xs)
line_at_index f [] zero = refl
line_at_index f [] (suc i) = refl
line_at_index f (x ∷ xs) zero = refl
line_at_index f (x ∷ xs) (suc i) = line_at_index f xs i

pub line_at : {X : Type 0} (f : X → List ℕ) (xs : List X) (i : ℕ) → flat_map f (drop i xs) ≡ option_map_or f (slice_get xs i) [] ++ flat_map f (drop (i + 1) xs)
line_at f xs i = subst (λ j. flat_map f (drop i xs) ≡ option_map_or f (slice_get xs i) [] ++ flat_map f (drop j xs)) (sym (add-one i)) (line_at_index f xs i)

-- The line of one item more.
pub line_goes : {X : Type 0} (f : X → List ℕ) (xs : List X) (i : ℕ) (a b c : Option (List ℕ)) (all : List ℕ) →
    IsWritten a b (flat_map f (drop i xs)) all → Appends b c (option_map_or f (slice_get xs i) []) → IsWritten a c (flat_map f (drop (i + 1) xs)) all
line_goes f xs i a b c all so goes = more a b c _ _ _ all so (line_at f xs i) goes

-- ---- what was last printed of each

abbrev printed_to : State → ℕ → List SeenPrefix → List SeenPrefix
printed_to s i es = map (printed s) (take i es) ++ drop i es

at_index : (s : State) (es : List SeenPrefix) (i : ℕ) → slice_get (printed_to s i es) i ≡ slice_get es i
at_index s [] zero = refl
at_index s [] (suc i) = refl
at_index s (e ∷ es) zero = refl
at_index s (e ∷ es) (suc i) = at_index s es i

after_first : {X Y : Type 0} (y : Y) (f : X → List Y) (m : Option X) (ys : List Y) → option_map_or (λ x. y ∷ f x) m (y ∷ ys) ≡ y ∷ option_map_or f m ys
after_first y f None ys = refl
after_first y f (Some x) ys = refl

set_at : (s : State) (es : List SeenPrefix) (i : ℕ) →
    option_map_or (λ e. set_value_at (printed_to s i es) i (choice_printed s e)) (slice_get es i) (printed_to s i es) ≡ printed_to s (suc i) es
set_at s [] zero = refl
set_at s [] (suc i) = refl
set_at s (e ∷ es) zero = refl
set_at s (e ∷ es) (suc i) =
    after_first (printed s e) (λ d. set_value_at (printed_to s i es) i (choice_printed s d)) (slice_get es i) (printed_to s i es)
    ∙ ap (λ rest. printed s e ∷ rest) (set_at s es i)

-- One seen prefix more.
pub selection_goes : (time : ℕ) (s : State) (es : List SeenPrefix) (i : ℕ) (mid : State) (now : List SeenPrefix) (later : List SeenPrefix) (a b c : Option (List ℕ)) (all : List ℕ) →
    mid ≡ s → now ≡ printed_to s i es → IsWritten a b (select_lines time s (drop i es)) all →
    Appends b c (option_map_or (select_line time mid) (slice_get now i) []) →
    later ≡ option_map_or (λ e. set_value_at now i (choice_printed mid e)) (slice_get now i) now →
    (later ≡ printed_to s (i + 1) es) × IsWritten a c (select_lines time s (drop (i + 1) es)) all
selection_goes time s es i mid now later a b c all same so written goes set =
    let found : slice_get now i ≡ slice_get es i = ap (λ l. slice_get l i) so ∙ at_index s es i in
    let line : option_map_or (select_line time mid) (slice_get now i) [] ≡ option_map_or (select_line time s) (slice_get es i) [] =
    ap (λ t. option_map_or (select_line time t) (slice_get now i) []) same ∙ ap (λ m. option_map_or (select_line time s) m []) found in (
      set
          ∙ ap (λ t. option_map_or (λ e. set_value_at now i (choice_printed t e)) (slice_get now i) now) same
          ∙ ap (λ m. option_map_or (λ e. set_value_at now i (choice_printed s e)) m now) found
          ∙ ap (λ l. option_map_or (λ e. set_value_at l i (choice_printed s e)) (slice_get es i) l) so
          ∙ set_at s es i
          ∙ ap (λ j. printed_to s j es) (sym (add-one i)),
      line_goes (select_line time s) es i a b c all written (subst (Appends b c) line goes),
    )
