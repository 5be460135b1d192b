-- What is known of the source of one route of a prefix is known of all that have its router.
use Rattle.std.proofs.Common.{◌≡◌, ◌||◌, ℕ, List, Option, true, false, Bool, cond, [], ◌∷◌, filter, not, refl, sym, ap, ◌∙◌}
use Rattle.std.specs.List.{list_any}
use Rattle.std.specs.Ordering.{is_eq}
use Rattle.babel_value.specs.declared.distances.Distance.{Distance}
use Rattle.babel_value.specs.declared.keys.Source.{Source}
use Rattle.babel_value.specs.Prefixes.{PrefixValue}
use Rattle.babel_value.specs.Orders.{octets_cmp}
use Rattle.babel_value.proofs.OrderLaws.{octets_exact}
use Rattle.babel_value.proofs.Orderings.{equal}
use Rattle.babel_choice.specs.Routes.{Route, RouteEntries}
use Rattle.babel_choice.specs.Choices.{is_of, routes_of}
use Rattle.babel_sources.specs.Distances.{is_feasible}
use Rattle.babel_sources.specs.Sources.{Sources, pair_of}
use Rattle.babel_state.specs.Reselection.{is_unfeasible}
use Rattle.babel_state.proofs.Selecting.{same_prefix}
use Rattle.babel_speaker.specs.Feasibility.{is_unfeasible_to}

same_router : (a b : List ℕ) → is_eq (octets_cmp a b) ≡ true → a ≡ b
same_router a b tied = octets_exact a b (equal (octets_cmp a b) tied)

-- the pair of a source makes a route of its router unfeasible, or doesn't
pub same_unfeasible : (source : Source) (sources : Sources) (route : Route) (pair : Option Distance) → pair ≡ pair_of source sources → is_eq (octets_cmp route.1.router source.router) ≡ true → is_unfeasible_to source.prefix sources route ≡ not (is_feasible pair route.1.distance)
same_unfeasible source sources route pair known tied =
    ap (λ r. not (is_feasible (pair_of (record { prefix = source.prefix; router = r }) sources) route.1.distance)) (same_router route.1.router source.router tied)
    ∙ ap (λ p. not (is_feasible p route.1.distance)) (sym known)

-- a route of the prefix is unfeasible as one to it
unfeasible_to : (p : PrefixValue) (sources : Sources) (route : Route) → is_of p route ≡ true → is_unfeasible_to p sources route ≡ is_unfeasible sources route
unfeasible_to p sources route here =
    ap (λ q. not (is_feasible (pair_of (record { prefix = q; router = route.1.router }) sources) route.1.distance)) (sym (same_prefix route.0.prefix p here))

pub unfeasible_of : (p : PrefixValue) (sources : Sources) (es : RouteEntries) → filter (is_unfeasible_to p sources) (routes_of p es) ≡ filter (is_unfeasible sources) (routes_of p es)
unfeasible_of p sources [] = refl
unfeasible_of p sources (e ∷ es) = by (is_of p e) refl (unfeasible_of p sources es)
  where
    by : (b : Bool) → is_of p e ≡ b → filter (is_unfeasible_to p sources) (routes_of p es) ≡ filter (is_unfeasible sources) (routes_of p es) → filter (is_unfeasible_to p sources) (cond b (e ∷ routes_of p es) (routes_of p es)) ≡ filter (is_unfeasible sources) (cond b (e ∷ routes_of p es) (routes_of p es))
    by true here rest = rw (unfeasible_to p sources e here) (ap (λ rs. cond (is_unfeasible sources e) (e ∷ rs) rs) rest)
    by false here rest = rest

pub any_unfeasible_of : (p : PrefixValue) (sources : Sources) (es : RouteEntries) → list_any (is_unfeasible_to p sources) (routes_of p es) ≡ list_any (is_unfeasible sources) (routes_of p es)
any_unfeasible_of p sources [] = refl
any_unfeasible_of p sources (e ∷ es) = by (is_of p e) refl (any_unfeasible_of p sources es)
  where
    by : (b : Bool) → is_of p e ≡ b → list_any (is_unfeasible_to p sources) (routes_of p es) ≡ list_any (is_unfeasible sources) (routes_of p es) → list_any (is_unfeasible_to p sources) (cond b (e ∷ routes_of p es) (routes_of p es)) ≡ list_any (is_unfeasible sources) (cond b (e ∷ routes_of p es) (routes_of p es))
    by true here rest = rw (unfeasible_to p sources e here) (ap (λ any. is_unfeasible sources e || any) rest)
    by false here rest = rest
