-- What is added from here on leaves what all leave, and there is room for it.
use Rattle.std.proofs.Common.{◌≡◌, ◌≤◌, ◌+◌, ◌-◌, drop, length}
use Rattle.babel_state.specs.State.{gathered}
use Rattle.babel_speaker.proofs.tables.first_tables.insert_prefixes.Given as goal

abbrev pub invariant-loop-prefix : goal.invariant-loop-prefix
invariant-loop-prefix l = record {
  done : gathered (drop l.prefix-index l.prefixes) l.announced ≡ gathered l.prefixes l.fn.announced;
  room : length l.announced + (length l.prefixes - l.prefix-index) ≤ 64;
}
