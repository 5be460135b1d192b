use Rattle.std.proofs.Common.{◌≡◌, ◌≤◌, ◌++◌, map, length, take, drop}
use Rattle.babel_replay.specs.Report.{select_lines}
use Rattle.babel_replay.specs.Seen.{printed}
use Rattle.babel_replay.specs.Texts.{select_head, longest_head}
use Rattle.babel_replay.proofs.Writing.{IsWritten}
use Rattle.babel_replay.proofs.replaying.Replayer.write_changes.Given as goal

abbrev pub invariant-loop-index : goal.invariant-loop-index
invariant-loop-index g l =
    (l.self.speaker.state ≡ l.initial.self.speaker.state)
    × (l.self.seen.entries
    ≡ map (printed l.initial.self.speaker.state) (take l.index l.initial.self.seen.entries) ++ drop l.index l.initial.self.seen.entries)
    × IsWritten (g.W.Write.contents l.initial.out) (g.W.Write.contents l.out)
    (select_lines l.time l.initial.self.speaker.state (drop l.index l.initial.self.seen.entries))
    (select_lines l.time l.initial.self.speaker.state l.initial.self.seen.entries)
    × (take l.head l.self.drafts.line ≡ select_head l.time)
    × (l.head ≤ length l.self.drafts.line)
    × (l.head ≤ longest_head)
