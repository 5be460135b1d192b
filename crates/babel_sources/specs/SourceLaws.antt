-- Laws of each source's pair (RFC 8966, sections 3.2.5 and 3.7.3), by look-ups.
use Rattle.std.specs.Prelude.{◌≡◌, ℕ, Bool, true, Some, nat_lt, option_and_then, if◌then◌else◌}
use Rattle.std.specs.List.{list_all}
use Rattle.std.specs.Ordering.{eq_by_cmp}
use Rattle.std.specs.FinMap.{find, is_sorted}
use Rattle.babel_value.specs.declared.keys.Source.{Source}
use Rattle.babel_value.specs.declared.distances.Distance.{Distance}
use Rattle.babel_value.specs.Orders.{source_cmp}
use Rattle.babel_sources.specs.Distances.{better_pair}
use Rattle.babel_sources.specs.Sources.{Sources, pair_of, lowered, collected, collected_entry}

-- After a distance was sent for a source, its pair is the better of the two, and each other source has its old pair.
abbrev pub LowersOneSource : Type 0
LowersOneSource =
    (now : ℕ) (source other : Source) (sent : Distance) (sources : Sources) →
    pair_of other (lowered now source sent sources)
    ≡ (if eq_by_cmp source_cmp other source then Some (better_pair (pair_of source sources) sent) else pair_of other sources)

-- After a collection a source has the entry that it had, unless that one was due.
abbrev pub CollectsWhatIsDue : Type 0
CollectsWhatIsDue =
    (now : ℕ) (source : Source) (sources : Sources) → is_sorted source_cmp sources ≡ true →
    find source_cmp source (collected now sources) ≡ option_and_then (collected_entry now source) (find source_cmp source sources)

-- A collection changes nothing as long as no entry is due.
abbrev pub are_later : ℕ → Sources → Bool
are_later now = list_all (λ e. nat_lt now e.1.due)

abbrev pub CollectsNothingEarly : Type 0
CollectsNothingEarly = (now : ℕ) (sources : Sources) → are_later now sources ≡ true → collected now sources ≡ sources
