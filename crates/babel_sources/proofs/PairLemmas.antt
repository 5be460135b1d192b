-- The pair of a source after another one, or the same, was lowered.
use Rattle.std.proofs.Common.{◌≡◌, ℕ, Bool, true, false, cond, Some, Option, option_map, refl, ap, ◌∙◌}
use Rattle.std.specs.Ordering.{eq_by_cmp}
use Rattle.std.specs.FinMap.{find}
use Rattle.std.specs.FinMap.Entries.{find-put}
use Rattle.babel_value.specs.declared.distances.Distance.{Distance}
use Rattle.babel_value.specs.declared.keys.Source.{Source}
use Rattle.babel_value.specs.Orders.{source_cmp}
use Rattle.babel_value.proofs.OrderLaws.{source_total}
use Rattle.babel_sources.specs.Distances.{better_pair}
use Rattle.babel_sources.specs.Sources.{Sources, pair_of, lowered, source_entry_after}

either : {A B : Type 0} (f : A → B) (b : Bool) (x : A) (o : Option A) → option_map f (cond b (Some x) o) ≡ cond b (Some (f x)) (option_map f o)
either f true x o = refl
either f false x o = refl

pub pair_lowered : (now : ℕ) (source other : Source) (sent : Distance) (sources : Sources) →
    pair_of other (lowered now source sent sources) ≡ cond (eq_by_cmp source_cmp other source) (Some (better_pair (pair_of source sources) sent)) (pair_of other sources)
pair_lowered now source other sent sources =
    ap (option_map (λ source_entry. source_entry.distance)) (find-put source_cmp source_total other source (source_entry_after now (pair_of source sources) sent) sources)
    ∙ either (λ source_entry. source_entry.distance) (eq_by_cmp source_cmp other source) (source_entry_after now (pair_of source sources) sent) (find source_cmp other sources)
