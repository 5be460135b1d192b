-- Prefixes put into a set one after the other.
use Rattle.std.proofs.Common.{◌≡◌, ◌≤◌, ◌+◌, List, [], ◌∷◌, ◌++◌, length, refl, arith}
use Rattle.std.specs.declared.cmp.Ordering.{Ordering}
use Rattle.std.specs.declared.cmp.Ordering.TheVariants.{Less, Equal, Greater}
use Rattle.std.specs.FinMap.{put}
use Rattle.std.specs.FinMap.Entries.{by_order}
use Rattle.babel_value.specs.Orders.{prefix_cmp}
use Rattle.babel_value.specs.Prefixes.{PrefixValue}
use Rattle.babel_state.specs.State.{PrefixSet, gathered}

pub put_at_most : (p : PrefixValue) (es : PrefixSet) → length (put prefix_cmp p tt es) ≤ length es + 1
put_at_most p [] = omega arith
put_at_most p (e ∷ es) = by (prefix_cmp p e.0) (put_at_most p es)
  where
    by : (o : Ordering) → length (put prefix_cmp p tt es) ≤ length es + 1 → length (by_order o ((p, tt) ∷ e ∷ es) ((e.0, tt) ∷ es) (e ∷ put prefix_cmp p tt es)) ≤ length (e ∷ es) + 1
    by Less rest = omega arith
    by Equal rest = omega arith
    by Greater rest = omega (arith, rest)

pub gathered_both : (xs ys : List PrefixValue) (es : PrefixSet) → gathered (xs ++ ys) es ≡ gathered ys (gathered xs es)
gathered_both [] ys es = refl
gathered_both (x ∷ xs) ys es = gathered_both xs ys (put prefix_cmp x tt es)
