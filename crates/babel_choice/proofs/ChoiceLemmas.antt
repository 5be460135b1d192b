-- A walk that keeps the candidate of least rank finds the first one.
use Rattle.std.proofs.Common.{◌≡◌, ℕ, ◌<◌, Bool, true, false, cond, ◌||◌, if◌then◌else◌, ◌∷◌, filter, length, [], Option, Some, None, IfSome, IsSome, option_map, option_and_then, slice_get, refl, sym, ap, subst, ◌∙◌}
use Rattle.std.proofs.lemmas.Option.{same_Some, none-some, slice_get_within}
use Rattle.std.specs.Option.{option_map_or}
use Rattle.std.proofs.lemmas.Bool.{false≢true}
use Rattle.std.specs.declared.cmp.Ordering.{Ordering}
use Rattle.std.specs.Ordering.{is_lt}
use Rattle.babel_value.specs.declared.keys.Peer.{Peer}
use Rattle.babel_value.specs.Prefixes.{PrefixValue}
use Rattle.babel_choice.specs.declared.choices.Rank.{Rank}
use Rattle.babel_choice.specs.declared.choices.Candidate.{Candidate}
use Rattle.babel_choice.specs.Routes.{Route, RouteEntries}
use Rattle.babel_table.specs.Firsts.{first_from, first_of}
use Rattle.babel_sources.specs.Sources.{Sources}
use Rattle.babel_choice.specs.Choices.{is_of, routes_of, is_candidate, candidates, has_entry, route_metric, is_change, rank_of, rank_cmp, rank_at, is_lesser_rank, preference, selection_of}

-- a candidate alone has a metric
pub measured : (passes : Bool) (metric found : ℕ) → cond passes (Some metric) None ≡ Some found → (passes ≡ true) × (found ≡ metric)
measured true metric found is = (refl, sym (same_Some metric found is))
measured false metric found is = absurd (none-some found is)

pub unmeasured : (passes : Bool) (metric : ℕ) → cond passes (Some metric) None ≡ None → passes ≡ false
unmeasured true metric is = cc
unmeasured false metric is = refl

-- any other route is left out
pub left_out : (passes : Route → Bool) (route : Route) (rest : RouteEntries) → passes route ≡ false → filter passes (route ∷ rest) ≡ filter passes rest
left_out passes route rest other = rw other refl

-- The candidate's metric is that of the route at its index.
pub record IsMeasured (cost : Peer → ℕ) (es : RouteEntries) (candidate : Candidate) : Type 0 where
  pub route : Route
  pub at : slice_get es candidate.place ≡ Some route
  pub metric : candidate.metric ≡ route_metric cost route

module _ (cost : Peer → ℕ) (before : Option Peer) (passes : Route → Bool) (es : RouteEntries) where
  abbrev ranked : ℕ → Route → Rank
  ranked metric route = record { metric = metric; is_change = is_change before route.0.peer; peer = route.0.peer }

  -- The first of the routes and of one that was found already.
  abbrev over : Option Route → RouteEntries → Option Route
  over found routes = first_from (preference cost before) found (filter passes routes)

  abbrev is_lesser : Candidate → Candidate → Bool
  is_lesser one other = is_lesser_rank (rank_at es before one.metric one.place) (rank_at es before other.metric other.place)

  -- one candidate more
  pub found_more : (found : Option Candidate) (new result : Candidate) (route : Route) (rest : RouteEntries) → IfSome found (IsMeasured cost es) → slice_get es new.place ≡ Some route → new.metric ≡ route_metric cost route → passes route ≡ true → result ≡ option_map_or (λ old. if is_lesser new old then new else old) found new → (over (slice_get es result.place) rest ≡ over (option_and_then (slice_get es) (option_map (λ c. c.place) found)) (route ∷ rest)) × IsMeasured cost es result
  found_more None new result route rest known at metric here is =
      let step : over (Some route) rest ≡ over None (route ∷ rest) = rw here refl in (
        ap (λ (c : Candidate). over (slice_get es c.place) rest) is ∙ ap (λ o. over o rest) at ∙ step,
        subst (IsMeasured cost es) (sym is) (record { route = route; at = at; metric = metric }),
      )
  found_more (Some old) new result route rest known at metric here is = by (is_lesser new old) refl is
    where
      compared : is_lesser new old ≡ is_lt (preference cost before route known.route)
      compared =
          ap (λ (o : Option Route). is_lesser_rank (option_map (ranked new.metric) o) (rank_at es before old.metric old.place)) at
          ∙ ap (λ (o : Option Route). is_lesser_rank (Some (ranked new.metric route)) (option_map (ranked old.metric) o)) known.at
          ∙ ap (λ n. is_lt (rank_cmp (ranked n route) (ranked old.metric known.route))) metric
          ∙ ap (λ n. is_lt (rank_cmp (rank_of cost before route) (ranked n known.route))) known.metric

      step : (b : Bool) → is_lt (preference cost before route known.route) ≡ b → over (Some (if b then route else known.route)) rest ≡ over (Some known.route) (route ∷ rest)
      step b one = rw here (ap (λ x. first_from (preference cost before) (Some (if x then route else known.route)) (filter passes rest)) (sym one))

      by : (b : Bool) → is_lesser new old ≡ b → result ≡ cond b new old → (over (slice_get es result.place) rest ≡ over (slice_get es old.place) (route ∷ rest)) × IsMeasured cost es result
      by true lt is = (
        ap (λ (c : Candidate). over (slice_get es c.place) rest) is ∙ ap (λ o. over o rest) at ∙ step true (sym compared ∙ lt) ∙ ap (λ o. over o (route ∷ rest)) (sym known.at),
        subst (IsMeasured cost es) (sym is) (record { route = route; at = at; metric = metric }),
      )
      by false lt is = (
        ap (λ (c : Candidate). over (slice_get es c.place) rest) is ∙ ap (λ o. over o rest) known.at ∙ step false (sym compared ∙ lt) ∙ ap (λ o. over o (route ∷ rest)) (sym known.at),
        subst (IsMeasured cost es) (sym is) known,
      )

  -- one route more
  pub found_step : (found result : Option Candidate) (new : Candidate) (route : Route) (rest : RouteEntries) → IfSome found (IsMeasured cost es) → slice_get es new.place ≡ Some route → new.metric ≡ route_metric cost route → result ≡ (if passes route then Some (option_map_or (λ old. if is_lesser new old then new else old) found new) else found) → (over (option_and_then (slice_get es) (option_map (λ c. c.place) result)) rest ≡ over (option_and_then (slice_get es) (option_map (λ c. c.place) found)) (route ∷ rest)) × IfSome result (IsMeasured cost es)
  found_step found result new route rest known at metric is = by (passes route) refl is
    where
      better : Candidate
      better = option_map_or (λ old. if is_lesser new old then new else old) found new

      over_all : Option Candidate → Option Route
      over_all kept = over (option_and_then (slice_get es) (option_map (λ c. c.place) kept)) rest

      by : (b : Bool) → passes route ≡ b → result ≡ cond b (Some better) found → (over_all result ≡ over (option_and_then (slice_get es) (option_map (λ c. c.place) found)) (route ∷ rest)) × IfSome result (IsMeasured cost es)
      by true here so =
          let more = found_more found new better route rest known at metric here refl in
          (ap over_all so ∙ more.0, subst (λ kept. IfSome kept (IsMeasured cost es)) (sym so) more.1)
      by false here so = (
        ap over_all so ∙ ap (first_from (preference cost before) (option_and_then (slice_get es) (option_map (λ c. c.place) found))) (sym (left_out passes route rest here)),
        subst (λ kept. IfSome kept (IsMeasured cost es)) (sym so) known,
      )

-- a candidate's index is one of the table
pub places_within : (cost : Peer → ℕ) (es : RouteEntries) (found : Option Candidate) → IfSome found (IsMeasured cost es) → IfSome found (λ old. old.place < length es)
places_within cost es None known = tt
places_within cost es (Some old) known = slice_get_within es old.place known.route known.at

-- the routes of a prefix, and whether it has one
pub some_route : (p : PrefixValue) (es : RouteEntries) (e : Route) (rest : RouteEntries) → routes_of p es ≡ e ∷ rest → has_entry es p ≡ true
some_route p [] e rest is = cc
some_route p (f ∷ es) e rest is = by (is_of p f) (some_route p es e rest) is
  where
    by : (b : Bool) → (routes_of p es ≡ e ∷ rest → has_entry es p ≡ true) → cond b (f ∷ routes_of p es) (routes_of p es) ≡ e ∷ rest → b || has_entry es p ≡ true
    by true later is = refl
    by false later is = later is

pub no_route : (p : PrefixValue) (es : RouteEntries) → routes_of p es ≡ [] → has_entry es p ≡ false
no_route p [] is = refl
no_route p (f ∷ es) is = by (is_of p f) (no_route p es) is
  where
    by : (b : Bool) → (routes_of p es ≡ [] → has_entry es p ≡ false) → cond b (f ∷ routes_of p es) (routes_of p es) ≡ [] → b || has_entry es p ≡ false
    by true later is = cc
    by false later is = later is

-- where something is chosen, the prefix has an entry
pub chosen_is_known : (order : Route → Route → Ordering) (passes : Route → Bool) (p : PrefixValue) (es routes : RouteEntries) → routes_of p es ≡ routes → IsSome (option_map selection_of (first_of order (filter passes routes))) → has_entry es p ≡ true
chosen_is_known order passes p es [] is chosen = absurd (false≢true chosen)
chosen_is_known order passes p es (r ∷ rs) is chosen = some_route p es r rs is

pub candidate_is_known : (sources : Sources) (cost : Peer → ℕ) (order : Route → Route → Ordering) (p : PrefixValue) (local : Bool) (es : RouteEntries) → IsSome (option_map selection_of (first_of order (candidates sources cost p local es))) → has_entry es p ≡ true
candidate_is_known sources cost order p true es chosen = absurd (false≢true chosen)
candidate_is_known sources cost order p false es chosen = chosen_is_known order (is_candidate sources cost) p es (routes_of p es) refl chosen

-- the first of one
pub first_alone : (order : Route → Route → Ordering) (passes : Route → Bool) (e : Route) (routes : RouteEntries) → routes ≡ e ∷ [] → passes e ≡ true → first_of order (filter passes routes) ≡ Some e
first_alone order passes e routes is here = ap (λ rs. first_of order (filter passes rs)) is ∙ rw here refl

pub none_alone : (order : Route → Route → Ordering) (passes : Route → Bool) (e : Route) (routes : RouteEntries) → routes ≡ e ∷ [] → passes e ≡ false → first_of order (filter passes routes) ≡ None
none_alone order passes e routes is other = ap (λ rs. first_of order (filter passes rs)) is ∙ rw other refl
