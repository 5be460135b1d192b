-- None of the neighbours so far has the route.
use Rattle.std.proofs.Common.{◌≡◌, length}
use Rattle.babel_choice.specs.Routes.{is_from_any}
use Rattle.babel_choice.proofs.revisions.FlushEach.search.Given as goal

abbrev pub invariant-loop-peer : goal.invariant-loop-peer
invariant-loop-peer l = is_from_any l.left l.key ≡ is_from_any l.self.peers.now l.key

abbrev pub decreases-loop-peer : goal.decreases-loop-peer
decreases-loop-peer l = length l.left
