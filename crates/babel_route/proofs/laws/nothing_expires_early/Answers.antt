-- An entry that isn't due is kept.
use Rattle.babel_route.proofs.DueLemmas.{nothing_expired}
use Rattle.babel_route.proofs.laws.nothing_expires_early.Goals as goal

pub returns : goal.returns
returns c = λ now es later. nothing_expired now es later
