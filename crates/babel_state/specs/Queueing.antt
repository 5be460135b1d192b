-- Queued items wait in a list of at most 4,096 items, the oldest first (profile).
use Rattle.std.specs.Prelude.{ℕ, ◌+◌, ◌-◌, min, List, [], ◌∷◌, ◌++◌, length, drop}
use Rattle.babel_state.specs.declared.items.Item.{Item}
use Rattle.babel_state.specs.Limits.{most_pending}

-- The pending items, and how many were dropped since there was no room.
pub record Pending : Type 0 where
  pub items : List Item
  pub dropped : ℕ

-- A count, and some more. It stops at the greatest number of 64 bits.
abbrev pub counted : ℕ → ℕ → ℕ
counted count more = min (count + more) 18446744073709551615

-- The last n of a list; all, where there are fewer.
abbrev pub last_ones : ℕ → List Item → List Item
last_ones n xs = drop (length xs - n) xs

-- All at once: the last 4,096 of the old items followed by the new ones, and what is cut is counted.
abbrev pub queued_at_once : List Item → Pending → Pending
queued_at_once xs old = record {
  items = last_ones most_pending (old.items ++ xs);
  dropped = counted old.dropped (length (old.items ++ xs) - most_pending);
}

-- The same one after the other. `queueing_keeps_the_last` says that it comes to the same.
unfoldable pub queued : List Item → Pending → Pending
queued [] old = old
queued (x ∷ xs) old = queued xs (queued_at_once (x ∷ []) old)
