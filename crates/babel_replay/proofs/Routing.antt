-- The routes of a prefix.
use Rattle.std.proofs.Common.{◌≡◌, ◌≤◌, ℕ, [], length, drop, flat_map, ap, arith}
use Rattle.std.proofs.Math.ListN.{drop_of_length-le}
use Rattle.std.proofs.lemmas.List.{length-map}
use Rattle.std.proofs.lemmas.List.Sums.{length-filter, count_by-le-length}
use Rattle.babel_value.specs.Prefixes.{PrefixValue}
use Rattle.babel_choice.specs.Choices.{is_of, routes_of}
use Rattle.babel_state.specs.Calls.{reported_entry, reported_entries}
use Rattle.babel_state.specs.State.{State}
use Rattle.babel_replay.specs.Routes.{route_line}

few : (prefix : PrefixValue) (s : State) → length (reported_entries prefix s) ≤ length s.routes.entries
unfolding reported_entries
few prefix s =
    omega (
      arith,
      length-map (routes_of prefix s.routes.entries) (reported_entry s),
      length-filter (is_of prefix) s.routes.entries,
      count_by-le-length (is_of prefix) s.routes.entries,
    )

pub no_route_after : (prefix : PrefixValue) (s : State) (n : ℕ) → length s.routes.entries ≤ n → flat_map (route_line prefix s) (drop n (reported_entries prefix s)) ≡ []
no_route_after prefix s n past = ap (flat_map (route_line prefix s)) (drop_of_length-le (reported_entries prefix s) (omega (arith, few prefix s, past)))
