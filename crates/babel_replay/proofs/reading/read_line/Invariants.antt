-- What was read of the line has no line feed, and is what the reader has lost.
use Rattle.std.proofs.Common.{◌≤◌, length, vec_capacity}
use Rattle.std.specs.Io.KnownBytes.{Consumes}
use Rattle.babel_text.specs.Lines.{max_line_len}
use Rattle.babel_replay.specs.Reading.{HasNoLineFeed}
use Rattle.babel_replay.proofs.reading.read_line.Given as goal

abbrev pub invariant-loop : goal.invariant-loop
invariant-loop g l = (length l.line.items ≤ max_line_len) × (vec_capacity l.initial.line ≤ vec_capacity l.line) × HasNoLineFeed l.line.items
    × Consumes (g.R.Read.remaining l.initial.log) (g.R.Read.remaining l.log) l.line.items
