-- An entry that isn't due is kept.
use Rattle.babel_sources.proofs.DueLemmas.{nothing_collected}
use Rattle.babel_sources.proofs.laws.nothing_is_collected_early.Goals as goal

pub returns : goal.returns
returns c = λ now sources later. nothing_collected now sources later
