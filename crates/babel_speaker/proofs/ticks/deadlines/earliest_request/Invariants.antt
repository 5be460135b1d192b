-- The least moment of all is that of the requests that are still to come and of the least one so far.
use Rattle.std.proofs.Common.{◌≡◌, map, drop}
use Rattle.babel_speaker.specs.Deadlines.{earliest}
use Rattle.babel_speaker.proofs.ticks.deadlines.earliest_request.Given as goal

abbrev pub invariant-loop-index : goal.invariant-loop-index
invariant-loop-index l = earliest l.least (map (λ e. e.1.due) (drop l.index l.requests)) ≡ earliest l.fn.due (map (λ e. e.1.due) l.requests)
