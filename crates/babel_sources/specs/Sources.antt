-- The source table (RFC 8966, section 3.2.5).
use Rattle.std.specs.Prelude.{ℕ, List, Option, Some, None, nat_le, option_map, if◌then◌else◌}
use Rattle.std.specs.FinMap.{find, put}
use Rattle.babel_value.specs.declared.keys.Source.{Source}
use Rattle.babel_value.specs.declared.distances.Distance.{Distance}
use Rattle.babel_value.specs.Moments.{later}
use Rattle.babel_value.specs.Orders.{source_cmp}
use Rattle.babel_sources.specs.declared.sources.SourceEntry.{SourceEntry}
use Rattle.babel_table.specs.Entries.{revised_entries}
use Rattle.babel_sources.specs.Rooms.{collection_time}
use Rattle.babel_sources.specs.Distances.{better_pair}

-- The entries, in the order of their sources.
abbrev pub Sources : Type 0
Sources = List (Source × SourceEntry)

-- The pair of a source, if it has one: its feasibility distance.
abbrev pub pair_of : Source → Sources → Option Distance
pair_of source sources = option_map (λ source_entry. source_entry.distance) (find source_cmp source sources)

-- The entry that a distance sent now leaves at its source (RFC 8966, section 3.7.3): the better pair, and its time of
-- collection set again.
abbrev pub source_entry_after : ℕ → Option Distance → Distance → SourceEntry
source_entry_after now pair sent = record { distance = better_pair pair sent; due = later now collection_time }

-- The table after a distance was sent for a source.
abbrev pub lowered : ℕ → Source → Distance → Sources → Sources
lowered now source sent sources = put source_cmp source (source_entry_after now (pair_of source sources) sent) sources

-- What a collection leaves of an entry (RFC 8966, section 3.2.5): nothing, if its time has come.
abbrev pub collected_entry : ℕ → Source → SourceEntry → Option SourceEntry
collected_entry now source source_entry = if nat_le source_entry.due now then None else Some source_entry

-- The table after a collection.
abbrev pub collected : ℕ → Sources → Sources
collected now = revised_entries (collected_entry now)
