-- What putting, removing and revising entries keep of all values of a table.
use Rattle.std.specs.Prelude.{◌≡◌, ℕ, zero, suc, slice_get, ◌≤◌, ◌+◌, Bool, true, false, cond, T, ◌&&◌, ◌==◌, not, List, [], ◌∷◌, All, IfSome, length, Option, Some, None, is_some, is_none}
use Rattle.std.specs.List.{cons_option}
use Rattle.std.specs.Option.{option_map}
use Rattle.std.specs.declared.cmp.Ordering.{Ordering}
use Rattle.std.specs.declared.cmp.Ordering.TheVariants.{Less, Equal, Greater}
use Rattle.std.specs.Ordering.{eq_by_cmp, is_eq}
use Rattle.std.specs.Cmp.{IsTotalOrder}
use Rattle.std.specs.FinMap.{find, put, is_sorted}
use Rattle.std.specs.FinMap.Entries.{by_order, length-put}
use Rattle.std.proofs.Common.{sym, subst, arith}
use Rattle.std.proofs.lemmas.Bool.{eqb-false}
use Rattle.std.proofs.lemmas.Option.{same_Some, none-some}
use Rattle.std.proofs.lemmas.List.Elements.{All-nil, All-cons, All-head, All-tail}
use Rattle.babel_table.specs.Entries.{without, revised_entries}

to_hold : (b : Bool) → b ≡ true → T b
to_hold b e = subst T (sym e) tt

pub each_at : {A : Type 0} (P : A → Type 0) (xs : List A) (i : ℕ) (x : A) → slice_get xs i ≡ Some x → All P xs → P x
each_at P [] i x at all = absurd (none-some x at)
each_at P (y ∷ xs) zero x at all = subst P (same_Some y x at) (All-head P y xs all)
each_at P (y ∷ xs) (suc i) x at all = each_at P xs i x at (All-tail P y xs all)

module _ {K V : Type 0} (R : K → K → Ordering) (P : V → Type 0) where
  abbrev pub Each : List (K × V) → Type 0
  Each = All (λ e. P e.1)

  pub each_put : (k : K) (v : V) (es : List (K × V)) → P v → Each es → Each (put R k v es)
  each_put k v [] p all = All-cons (λ e. P e.1) (k, v) [] p (All-nil (λ e. P e.1))
  each_put k v (e ∷ es) p all = by (R k e.0) (each_put k v es p (All-tail (λ e. P e.1) e es all))
    where
      by : (r : Ordering) → Each (put R k v es) → Each (by_order r ((k, v) ∷ e ∷ es) ((e.0, v) ∷ es) (e ∷ put R k v es))
      by Less rest = All-cons (λ e. P e.1) (k, v) (e ∷ es) p all
      by Equal rest = All-cons (λ e. P e.1) (e.0, v) es p (All-tail (λ e. P e.1) e es all)
      by Greater rest = All-cons (λ e. P e.1) e (put R k v es) (All-head (λ e. P e.1) e es all) rest

  pub each_find : (k : K) (v : V) (es : List (K × V)) → Each es → find R k es ≡ Some v → P v
  each_find k v [] all at = absurd (none-some v at)
  each_find k v (e ∷ es) all at = by (is_eq (R k e.0)) (λ at. each_find k v es (All-tail (λ e. P e.1) e es all) at) at
    where
      by : (b : Bool) → (find R k es ≡ Some v → P v) → cond b (Some e.1) (find R k es) ≡ Some v → P v
      by true rest at = subst P (same_Some e.1 v at) (All-head (λ e. P e.1) e es all)
      by false rest at = rest at

  pub each_revised : (f : K → V → Option V) → ((k : K) (v : V) → P v → IfSome (f k v) P) → (es : List (K × V)) → Each es → Each (revised_entries f es)
  each_revised f keeps [] all = all
  each_revised f keeps (e ∷ es) all =
      by (f e.0 e.1) (keeps e.0 e.1 (All-head (λ e. P e.1) e es all)) (each_revised f keeps es (All-tail (λ e. P e.1) e es all))
    where
      by : (r : Option V) → IfSome r P → Each (revised_entries f es) → Each (cons_option (option_map (λ v. (e.0, v)) r) (revised_entries f es))
      by None p rest = rest
      by (Some v) p rest = All-cons (λ e. P e.1) (e.0, v) (revised_entries f es) p rest

module _ {K V : Type 0} (R : K → K → Ordering) where
  pub few_revised : (f : K → V → Option V) (n : ℕ) (es : List (K × V)) → length es ≤ n → length (revised_entries f es) ≤ n
  few_revised f n es few = omega (arith, at_most es)
    where
      at_most : (es : List (K × V)) → length (revised_entries f es) ≤ length es
      at_most [] = omega arith
      at_most (e ∷ es) = by (f e.0 e.1) (at_most es)
        where
          by : (r : Option V) → length (revised_entries f es) ≤ length es → length (cons_option (option_map (λ v. (e.0, v)) r) (revised_entries f es)) ≤ length (e ∷ es)
          by None rest = omega (arith, rest)
          by (Some v) rest = omega (arith, rest)

  pub few_without : (k : K) (n : ℕ) (es : List (K × V)) → length es ≤ n → length (without R k es) ≤ n
  few_without k n es few = omega (arith, at_most es)
    where
      at_most : (es : List (K × V)) → length (without R k es) ≤ length es
      at_most [] = omega arith
      at_most (e ∷ es) = by (not (eq_by_cmp R k e.0)) (at_most es)
        where
          by : (b : Bool) → length (without R k es) ≤ length es → length (cond b (e ∷ without R k es) (without R k es)) ≤ length (e ∷ es)
          by true rest = omega (arith, rest)
          by false rest = omega (arith, rest)

  module _ (o : IsTotalOrder R) where
    -- a key that is there, or room for it
    pub few_put : (k : K) (v : V) (n : ℕ) (es : List (K × V)) → is_sorted R es ≡ true → length es ≤ n → (is_none (find R k es) && (length es == n)) ≡ false → length (put R k v es) ≤ n
    few_put k v n es sorted few room = by (find R k es) room (length-put R o k v es (to_hold (is_sorted R es) sorted))
      where
        by : (m : Option V) → (is_none m && (length es == n)) ≡ false → length (put R k v es) ≡ cond (is_some m) (length es) (length es + 1) → length (put R k v es) ≤ n
        by (Some w) room is = omega (arith, is, few)
        by None room is = omega (arith, is, few, eqb-false (length es) n room)
