-- What is at the index after all lesser keys is the key, or it would be inserted there.
use Rattle.std.proofs.Common.{◌≡◌, ℕ, true, List, slice_get, Some, sym, ap, ◌∙◌}
use Rattle.std.specs.declared.cmp.Ordering.{Ordering}
use Rattle.std.specs.Ordering.{is_eq}
use Rattle.std.specs.FinMap.{IsAntisymmetric}
use Rattle.babel_value.proofs.Orderings.{equal}

module _ {K V : Type 0} (R : K → K → Ordering) where
  pub at_there : IsAntisymmetric R → (k : K) (es : List (K × V)) (i : ℕ) (e : K × V) → slice_get es i ≡ Some e → is_eq (R k e.0) ≡ true → slice_get es i ≡ Some (k, e.1)
  at_there exact k es i e at same = at ∙ ap (λ x. Some (x, e.1)) (sym (exact k e.0 (equal (R k e.0) same)))
