-- A flush of several neighbours in one pass is a flush of each of them.
use Rattle.std.proofs.Common.{◌≡◌, ◌==◌, length, Bool, true, false, ◌||◌, List, [], ◌∷◌, Some, None, option_map, if◌then◌else◌, refl, sym, ap, ◌∙◌, arith}
use Rattle.std.proofs.lemmas.Bool.{eqb-true}
use Rattle.std.specs.List.{cons_option}
use Rattle.babel_value.specs.declared.keys.Peer.{Peer}
use Rattle.babel_table.specs.Entries.{revised_entries}
use Rattle.babel_choice.specs.Routes.{RouteEntries, is_from, is_from_any, kept_without_each, forgotten, all_forgotten}

all_kept : (es : RouteEntries) → revised_entries (kept_without_each []) es ≡ es
all_kept [] = refl
all_kept (e ∷ es) = ap (λ fs. e ∷ fs) (all_kept es)

one_more : (peer : Peer) (peers : List Peer) (es : RouteEntries) → revised_entries (kept_without_each (peer ∷ peers)) es ≡ revised_entries (kept_without_each peers) (forgotten peer es)
one_more peer peers [] = refl
one_more peer peers (e ∷ es) = by (is_from peer e.0) (one_more peer peers es)
  where
    by : (b : Bool) → revised_entries (kept_without_each (peer ∷ peers)) es ≡ revised_entries (kept_without_each peers) (forgotten peer es) →
        cons_option (option_map (λ v. (e.0, v)) (if b || is_from_any peers e.0 then None else Some e.1)) (revised_entries (kept_without_each (peer ∷ peers)) es)
        ≡ revised_entries (kept_without_each peers) (cons_option (option_map (λ v. (e.0, v)) (if b then None else Some e.1)) (forgotten peer es))
    by true rest = rest
    by false rest = ap (cons_option (option_map (λ v. (e.0, v)) (kept_without_each peers e.0 e.1))) rest

pub each_forgotten : (peers : List Peer) (es : RouteEntries) → revised_entries (kept_without_each peers) es ≡ all_forgotten peers es
each_forgotten [] es = all_kept es
each_forgotten (peer ∷ peers) es = one_more peer peers es ∙ each_forgotten peers (forgotten peer es)

pub none_forgotten : (peers : List Peer) (es : RouteEntries) → true ≡ (length peers == 0) → es ≡ all_forgotten peers es
none_forgotten [] es empty = refl
none_forgotten (peer ∷ peers) es empty = absurd (some (eqb-true (length (peer ∷ peers)) 0 (sym empty)))
  where
    some : length (peer ∷ peers) ≡ 0 → ⊥
    some none = omega (arith, none)
