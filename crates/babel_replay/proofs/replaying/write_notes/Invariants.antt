use Rattle.std.proofs.Common.{◌≡◌, ◌≤◌, flat_map, length, take, zip}
use Rattle.std.specs.Iterator.Adapters.{zip_first, zip_second}
use Rattle.std.specs.Slice.Iter.{iter_rest}
use Rattle.babel_replay.specs.Texts.{moment_text, longest_moment}
use Rattle.babel_replay.specs.Report.{note_line, note_lines}
use Rattle.babel_replay.proofs.Writing.{IsWritten}
use Rattle.babel_replay.proofs.replaying.write_notes.Given as goal

abbrev pub invariant-loop-place : goal.invariant-loop-place
invariant-loop-place g l =
    IsWritten (g.W.Write.contents l.initial.out) (g.W.Write.contents l.out)
    (flat_map (note_line l.time) (zip (iter_rest (zip_first l.place-iterator)) (iter_rest (zip_second l.place-iterator))))
    (note_lines l.time l.placed l.notes)
    × (take l.start l.line ≡ moment_text l.time)
    × (l.start ≡ length (moment_text l.time))
    × (length (moment_text l.time) ≤ longest_moment)
