use Rattle.std.proofs.Common.{◌≡◌, ◌≤◌, zip}
use Rattle.std.specs.Iterator.Adapters.{zip_first, zip_second}
use Rattle.std.specs.Slice.Iter.{iter_rest}
use Rattle.babel_replay.specs.Seen.{updates_in, seen_after}
use Rattle.babel_replay.proofs.seen.SeenPrefixes.add_stored.Given as goal

abbrev pub invariant-loop-place : goal.invariant-loop-place
invariant-loop-place l =
    (updates_in (iter_rest (zip_first l.place-iterator)) ≤ l.self.room)
    × (seen_after (zip (iter_rest (zip_first l.place-iterator)) (iter_rest (zip_second l.place-iterator))) l.self.entries
    ≡ seen_after (zip l.placed l.notes) l.initial.self.entries)
