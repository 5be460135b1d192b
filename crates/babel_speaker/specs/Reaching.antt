-- The prefixes that are announced or selected, read from two tables. `reachable_prefixes` of a state is this of its two tables.
use Rattle.std.specs.Prelude.{List, ◌++◌, map}
use Rattle.babel_value.specs.Prefixes.{PrefixValue}
use Rattle.babel_choice.specs.Choices.{Selections}
use Rattle.babel_state.specs.State.{PrefixSet, prefixes_in, ascending}

abbrev pub reachable_of : PrefixSet → Selections → List PrefixValue
reachable_of announced selections = ascending (prefixes_in announced ++ map (λ e. e.0) selections)
