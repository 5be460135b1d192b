-- The least moment of all is that of the neighbours that are still to come and of the least one so far.
use Rattle.std.proofs.Common.{◌≡◌, map, drop}
use Rattle.babel_speaker.specs.Deadlines.{earliest, link_due}
use Rattle.babel_speaker.proofs.ticks.deadlines.earliest_neighbour.Given as goal

abbrev pub invariant-loop-entry : goal.invariant-loop-entry
invariant-loop-entry l = earliest l.least (map (λ e. link_due e.1) (drop l.entry-index l.neighbours)) ≡ earliest l.fn.due (map (λ e. link_due e.1) l.neighbours)
