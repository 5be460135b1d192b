-- The updates so far, and those of the places from here on, are all of them.
use Rattle.std.proofs.Common.{◌≡◌, ◌++◌, drop}
use Rattle.babel_packet.specs.Meaning.{messages_of}
use Rattle.babel_state.specs.Seen.{updates_among}
use Rattle.babel_mixed.specs.Updates.{HaveWords}
use Rattle.babel_mixed.proofs.updates.updates_in.Given as goal

abbrev pub invariant-loop-place : goal.invariant-loop-place
invariant-loop-place l = record {
  done : l.updates.items ++ updates_among (messages_of (drop l.place-index l.placed)) ≡ updates_among (messages_of l.placed);
  seqnos : HaveWords l.updates.items;
}
