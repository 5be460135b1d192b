-- Updates that repeat what a neighbour advertised: only a deadline changes (RFC 8966, section 3.5.3).
use Rattle.std.specs.Prelude.{ℕ, Bool, false, Option, if◌then◌else◌}
use Rattle.std.specs.Option.{option_map_or}
use Rattle.std.specs.Ordering.{eq_by_cmp}
use Rattle.babel_value.specs.declared.keys.Peer.{Peer}
use Rattle.babel_value.specs.Orders.{peer_cmp}
use Rattle.babel_choice.specs.declared.entries.Entry.{Entry}
use Rattle.babel_choice.specs.declared.entries.Selection.{Selection}
use Rattle.babel_route.specs.Currency.{is_same_entry}

-- The new entry is the old one but for the deadline.
abbrev pub is_repeated : Entry → Option Entry → Bool
is_repeated new old = option_map_or (λ e. is_same_entry (record e { deadline = new.deadline }) new) old false

-- The selection, with the new deadline if it is of the neighbour.
abbrev pub refreshed : Peer → ℕ → Selection → Selection
refreshed peer deadline s = record s {
  entry = record s.entry { deadline = if eq_by_cmp peer_cmp s.peer peer then deadline else s.entry.deadline };
}
