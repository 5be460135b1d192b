-- What is added from here on leaves what all leave, and there is room for it.
use Rattle.std.proofs.Common.{◌≡◌, ◌≤◌, ◌+◌, length}
use Rattle.babel_state.specs.State.{gathered, prefixes_in}
use Rattle.babel_speaker.proofs.tables.scratch.Scratch.insert_announced.Given as goal

abbrev pub invariant-loop-prefix : goal.invariant-loop-prefix
invariant-loop-prefix l = record {
  done : gathered (l.prefix-iterator) l.self ≡ gathered (prefixes_in l.announced) l.fn.self;
  room : length l.self + length l.prefix-iterator ≤ length l.fn.self + length l.announced;
}
