-- A look-up after a `put` is that of the key put, or the one before; a revision changes each route by itself.
use Rattle.std.proofs.Common.{◌≡◌, ℕ, Bool, true, false, if◌then◌else◌, Option, Some, None, option_map, refl, sym, ap, subst, ◌∙◌}
use Rattle.std.specs.Option.{option_map_or}
use Rattle.std.specs.Ordering.{is_eq}
use Rattle.std.specs.FinMap.{find, put}
use Rattle.std.specs.FinMap.Entries.{find-put}
use Rattle.babel_choice.specs.declared.entries.RouteKey.{RouteKey}
use Rattle.babel_choice.specs.declared.entries.Entry.{Entry}
use Rattle.babel_choice.specs.RouteKeys.{route_cmp, route_total, route_exact}
use Rattle.babel_choice.specs.Routes.{RouteEntries, key_of, entry_of_update, retracted_entry, retracted_from, kept_without, expired_entry}
use Rattle.babel_table.proofs.PlaceLemmas.{find_revised}
use Rattle.babel_route.proofs.laws.routes_by_their_keys.Goals as goal
use Rattle.babel_value.proofs.Orderings.{equal}

pub returns-clause-updates : goal.returns-clause-updates
returns-clause-updates c = λ now prefix peer router distance next_hop interval key es.
    find-put route_cmp route_total key (key_of prefix peer) (entry_of_update now router distance next_hop interval) es

retracts : (now : ℕ) (at key : RouteKey) (es : RouteEntries) (source_entry : Option Entry) → find route_cmp at es ≡ source_entry → (b : Bool) → is_eq (route_cmp key at) ≡ b → find route_cmp key (option_map_or (λ e. put route_cmp at (retracted_entry now e) es) source_entry es) ≡ (if b then option_map (retracted_entry now) (find route_cmp key es) else find route_cmp key es)
retracts now at key es None is true here =
    let none : find route_cmp key es ≡ None = subst (λ k. find route_cmp k es ≡ None) (sym (route_exact key at (equal (route_cmp key at) here))) is in
    none ∙ ap (option_map (retracted_entry now)) (sym none)
retracts now at key es None is false here = refl
retracts now at key es (Some e) is true here =
    let some : find route_cmp key es ≡ Some e = subst (λ k. find route_cmp k es ≡ Some e) (sym (route_exact key at (equal (route_cmp key at) here))) is in
    find-put route_cmp route_total key at (retracted_entry now e) es ∙ rw here (ap (option_map (retracted_entry now)) (sym some))
retracts now at key es (Some e) is false here =
    find-put route_cmp route_total key at (retracted_entry now e) es ∙ rw here refl

pub returns-clause-retracts : goal.returns-clause-retracts
returns-clause-retracts c = λ now prefix peer key es.
    retracts now (key_of prefix peer) key es (find route_cmp (key_of prefix peer) es) refl (is_eq (route_cmp key (key_of prefix peer))) refl

pub returns-clause-changes : goal.returns-clause-changes
returns-clause-changes c = λ now peer key es sorted. (
  find_revised route_cmp route_total route_exact (retracted_from now peer) key es sorted,
  find_revised route_cmp route_total route_exact (kept_without peer) key es sorted,
  find_revised route_cmp route_total route_exact (expired_entry now) key es sorted,
)
