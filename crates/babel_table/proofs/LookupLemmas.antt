-- A look-up after an entry of a key was written or removed.
use Rattle.std.proofs.Common.{◌≡◌, Bool, true, false, cond, not, List, Option, Some, None, refl, sym, ap, ◌∙◌}
use Rattle.std.specs.declared.cmp.Ordering.{Ordering}
use Rattle.std.specs.declared.cmp.Ordering.TheVariants.{Less, Equal, Greater}
use Rattle.std.specs.Ordering.{is_eq, eq_by_cmp, ordering_reverse}
use Rattle.std.specs.Cmp.{IsTotalOrder}
use Rattle.std.specs.FinMap.{find, IsAntisymmetric, is_sorted}
use Rattle.std.specs.FinMap.Entries.{find-put, find-where_key, same_entries}
use Rattle.babel_table.specs.Entries.{with_value}
use Rattle.babel_table.proofs.PlaceLemmas.{holds, sorted_put, sorted_without}
use Rattle.babel_value.proofs.Orderings.{equal}

eq_reversed : (r : Ordering) → is_eq (ordering_reverse r) ≡ is_eq r
eq_reversed Less = refl
eq_reversed Equal = refl
eq_reversed Greater = refl

-- ties go both ways
pub eq_turned : {K : Type 0} (R : K → K → Ordering) → IsTotalOrder R → (x y : K) → eq_by_cmp R x y ≡ eq_by_cmp R y x
eq_turned R o x y = ap is_eq (o.antisymm x y) ∙ eq_reversed (R y x)

module _ {K V : Type 0} (R : K → K → Ordering) (o : IsTotalOrder R) (exact : IsAntisymmetric R) where
  pub find_with_value : (q k : K) (value : Option V) (es : List (K × V)) → find R q (with_value R k value es) ≡ cond (eq_by_cmp R q k) value (find R q es)
  find_with_value q k (Some v) es = find-put R o q k v es
  find_with_value q k None es =
      find-where_key R (λ x. not (eq_by_cmp R k x)) q (λ x e. ap (λ y. not (eq_by_cmp R k y)) (sym (exact q x e))) es
      ∙ ap (λ b. cond (not b) (find R q es) None) (ap is_eq (o.antisymm k q) ∙ eq_reversed (R q k))
      ∙ by (eq_by_cmp R q k)
    where
      by : (b : Bool) → cond (not b) (find R q es) None ≡ cond b None (find R q es)
      by true = refl
      by false = refl

  sorted_with_value : (k : K) (value : Option V) (es : List (K × V)) → is_sorted R es ≡ true → is_sorted R (with_value R k value es) ≡ true
  sorted_with_value k None es sorted = sorted_without R k es sorted
  sorted_with_value k (Some v) es sorted = sorted_put R o k v es sorted

  -- writing what is there changes nothing
  pub with_value_same : (k : K) (value : Option V) (es : List (K × V)) → is_sorted R es ≡ true → find R k es ≡ value → with_value R k value es ≡ es
  with_value_same k value es sorted is =
      same_entries R o exact (with_value R k value es) es
      (holds (is_sorted R (with_value R k value es)) (sorted_with_value k value es sorted)) (holds (is_sorted R es) sorted)
      (λ q. find_with_value q k value es ∙ by q (eq_by_cmp R q k) refl)
    where
      by : (q : K) (b : Bool) → eq_by_cmp R q k ≡ b → cond b value (find R q es) ≡ find R q es
      by q true here = sym is ∙ ap (λ x. find R x es) (sym (exact q k (equal (R q k) here)))
      by q false here = refl
