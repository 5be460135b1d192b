-- One more record after those that are written.
use Rattle.std.specs.Prelude.{◌≡◌, ℕ, zero, suc, ◌+◌, List, [], ◌∷◌, ◌++◌, All, map, take, slice_get, Some, option_map}
use Rattle.std.proofs.Common.{refl, sym, ap, subst, ◌∙◌, append_assoc, add-one}
use Rattle.std.proofs.lemmas.List.{append-nil}
use Rattle.std.proofs.lemmas.List.Elements.{All-nil, All-cons, All-append}
use Rattle.std.proofs.lemmas.Option.{none-some, same_Some, slice_get-map}
use Rattle.babel_value.specs.declared.distances.Distance.{Distance}
use Rattle.babel_value.specs.declared.keys.Source.{Source}
use Rattle.babel_sources.specs.Sources.{Sources}
use Rattle.babel_state.specs.Restarts.{kept_source}
use Rattle.babel_snapshot.specs.Octets.{record_octets, records_octets}
use Rattle.babel_snapshot.specs.SnapshotLaws.{IsRecord}

pub records_append : (es fs : List (Source × Distance)) → records_octets (es ++ fs) ≡ records_octets es ++ records_octets fs
records_append [] fs = refl
records_append (e ∷ es) fs = ap (λ xs. record_octets e ++ xs) (records_append es fs) ∙ sym (append_assoc (record_octets e) (records_octets es) (records_octets fs))

pub take_next : {A : Type 0} (xs : List A) (i : ℕ) (x : A) → slice_get xs i ≡ Some x → take (suc i) xs ≡ take i xs ++ x ∷ []
take_next [] i x at = absurd (none-some x at)
take_next (y ∷ ys) zero x at = ap (λ z. z ∷ []) (same_Some y x at)
take_next (y ∷ ys) (suc i) x at = ap (λ zs. y ∷ zs) (take_next ys i x at)

take_mapped : {A B : Type 0} (f : A → B) (xs : List A) (i : ℕ) → map f (take i xs) ≡ take i (map f xs)
take_mapped f xs zero = refl
take_mapped f [] (suc i) = refl
take_mapped f (x ∷ xs) (suc i) = ap (λ ys. f x ∷ ys) (take_mapped f xs i)

kept_next : (es : Sources) (i : ℕ) (e : Source × Distance) → option_map kept_source (slice_get es i) ≡ Some e → map kept_source (take (i + 1) es) ≡ map kept_source (take i es) ++ e ∷ []
kept_next es i e at =
    take_mapped kept_source es (i + 1)
    ∙ ap (λ n. take n (map kept_source es)) (add-one i)
    ∙ take_next (map kept_source es) i e (slice_get-map kept_source es i ∙ at)
    ∙ ap (λ xs. xs ++ e ∷ []) (sym (take_mapped kept_source es i))

pub records_next : (es : Sources) (i : ℕ) (e : Source × Distance) (first : List ℕ) → option_map kept_source (slice_get es i) ≡ Some e →
    (first ++ records_octets (map kept_source (take i es))) ++ record_octets e ≡ first ++ records_octets (map kept_source (take (i + 1) es))
records_next es i e first at =
    let one : record_octets e ≡ records_octets (e ∷ []) = sym (append-nil (record_octets e)) in
    append_assoc first (records_octets (map kept_source (take i es))) (record_octets e)
    ∙ ap (λ xs. first ++ xs) (ap (λ xs. records_octets (map kept_source (take i es)) ++ xs) one ∙ sym (records_append (map kept_source (take i es)) (e ∷ [])) ∙ ap records_octets (sym (kept_next es i e at)))

pub whole_next : (es : Sources) (i : ℕ) (e : Source × Distance) → option_map kept_source (slice_get es i) ≡ Some e → IsRecord e →
    All IsRecord (map kept_source (take i es)) → All IsRecord (map kept_source (take (i + 1) es))
whole_next es i e at whole all =
    subst (All IsRecord) (sym (kept_next es i e at)) (All-append IsRecord (map kept_source (take i es)) (e ∷ []) all (All-cons IsRecord e [] whole (All-nil IsRecord)))
