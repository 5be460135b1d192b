-- The announced prefixes after one of them was inserted or removed.
use Rattle.std.proofs.Common.{◌≡◌, true, false, cond, Option, Some, None, is_some, refl, sym, ap, ◌∙◌}
use Rattle.std.proofs.lemmas.Bool.{true≢false}
use Rattle.std.specs.FinMap.{find, put, is_sorted}
use Rattle.std.specs.Cmp.{tied_itself}
use Rattle.std.specs.Ordering.{is_eq}
use Rattle.babel_value.proofs.OrderLaws.{prefix_total, prefix_exact}
use Rattle.babel_value.specs.Orders.{prefix_cmp}
use Rattle.babel_value.specs.Prefixes.{PrefixValue}
use Rattle.babel_state.specs.State.{PrefixSet}
use Rattle.babel_table.specs.Entries.{without}
use Rattle.babel_table.proofs.LookupLemmas.{find_with_value, with_value_same}

pub inserted_is_there : (p : PrefixValue) (es : PrefixSet) → is_some (find prefix_cmp p (put prefix_cmp p tt es)) ≡ true
inserted_is_there p es =
    ap is_some (find_with_value prefix_cmp prefix_total prefix_exact p p (Some tt) es ∙ ap (λ o. cond (is_eq o) (Some tt) (find prefix_cmp p es)) (tied_itself prefix_total p))

pub removed_is_gone : (p : PrefixValue) (es : PrefixSet) → is_some (find prefix_cmp p (without prefix_cmp p es)) ≡ false
removed_is_gone p es =
    ap is_some (find_with_value prefix_cmp prefix_total prefix_exact p p None es ∙ ap (λ o. cond (is_eq o) None (find prefix_cmp p es)) (tied_itself prefix_total p))

-- A prefix that is there already isn't inserted.
pub inserted_again : (p : PrefixValue) (es : PrefixSet) → is_sorted prefix_cmp es ≡ true → is_some (find prefix_cmp p es) ≡ true → put prefix_cmp p tt es ≡ es
inserted_again p es sorted known =
    with_value_same prefix_cmp prefix_total prefix_exact p (Some tt) es sorted (by (find prefix_cmp p es) known)
  where
    by : (o : Option Unit) → is_some o ≡ true → o ≡ Some tt
    by None known = absurd (true≢false (sym known))
    by (Some u) known = refl
