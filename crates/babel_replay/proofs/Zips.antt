-- Loops over two slices.
use Rattle.std.proofs.Common.{◌≡◌, ◌⊎◌, inl, inr, ℕ, List, [], ◌∷◌, Option, None, Some, refl, zip, flat_map, ap, ◌∙◌}
use Rattle.std.specs.Io.KnownBytes.{Appends}
use Rattle.babel_message.specs.declared.placements.Placed.{Placed}
use Rattle.babel_state.specs.declared.notes.Note.{Note}
use Rattle.babel_replay.specs.Report.{note_line}
use Rattle.babel_replay.proofs.Writing.{IsWritten, more, ended}
use Rattle.std.specs.Borrow.{Bor}
use Rattle.std.specs.Iterator.Adapters.{zip_first, zip_second}
use Rattle.std.specs.Slice.Iter.{iter_rest}
use Rattle.std.specs.declared.iter.Zip.{Zip}
use Rattle.std.specs.declared.slice.Iter.{Iter}
use Rattle.std.proofs.lemmas.Fn.{fronts}
use Rattle.std.proofs.lemmas.Iterator.{zips}
use Rattle.std.proofs.lemmas.Slice.Zip.{either_empty_from_Zip, Zip-more}

no_pairs : {A B : Type 0} (xs : List A) (ys : List B) → (xs ≡ []) ⊎ (ys ≡ []) → zip xs ys ≡ []
no_pairs xs ys (inl none) = ap (λ l. zip l ys) none
no_pairs [] ys (inr none) = refl
no_pairs (x ∷ xs) ys (inr none) = ap (zip (x ∷ xs)) none

pub zip_over : {A B : Type 0} (s t : Zip (Iter A) (Iter B)) (r : Option (Bor A × Bor B)) → r ≡ None → zips fronts fronts s r t →
    zip (iter_rest (zip_first s)) (iter_rest (zip_second s)) ≡ []
zip_over s t r none steps = no_pairs (iter_rest (zip_first s)) (iter_rest (zip_second s)) (either_empty_from_Zip s t r none steps)

abbrev notes_left : ℕ → Zip (Iter Placed) (Iter Note) → List ℕ
notes_left time s = flat_map (note_line time) (zip (iter_rest (zip_first s)) (iter_rest (zip_second s)))

-- The line of one note more.
pub note_goes : (time : ℕ) (s t : Zip (Iter Placed) (Iter Note)) (r : Option (Bor Placed × Bor Note)) (p : Bor Placed × Bor Note) (a b c : Option (List ℕ)) (all : List ℕ) →
    r ≡ Some p → zips fronts fronts s r t → IsWritten a b (notes_left time s) all → Appends b c (note_line time (p.0.now, p.1.now)) → IsWritten a c (notes_left time t) all
note_goes time s t r p a b c all is steps so goes =
    let turn = Zip-more s t r p is steps in
    more a b c (notes_left time s) (note_line time (p.0.now, p.1.now)) (notes_left time t) all so
    (ap (λ l. flat_map (note_line time) (zip l (iter_rest (zip_second s)))) turn.0
    ∙ ap (λ l. flat_map (note_line time) (zip (p.0.now ∷ iter_rest (zip_first t)) l)) turn.1)
    goes

pub notes_end : (time : ℕ) (s t : Zip (Iter Placed) (Iter Note)) (r : Option (Bor Placed × Bor Note)) (a b : Option (List ℕ)) (all : List ℕ) →
    r ≡ None → zips fronts fronts s r t → IsWritten a b (notes_left time s) all → Appends a b all
notes_end time s t r a b all none steps so = ended a b (notes_left time s) all so (ap (flat_map (note_line time)) (zip_over s t r none steps))
