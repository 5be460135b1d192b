-- How much the route table has room for (profile). The law `limits_are_those_of_the_code` of `babel_speaker` ties these
-- numbers to the code's.
use Rattle.std.specs.Prelude.{ℕ, ◌*◌}

-- The most places of a route table: one for each entry, and one for each prefix that has a selection but no entry.
abbrev pub most_routes : ℕ
most_routes = 256

-- At most so many prefixes have an entry or a selection: one for each of both.
abbrev pub most_listed_prefixes : ℕ
most_listed_prefixes = 2 * most_routes
