-- A look-up after a `put` is that of the key put, or the one before; a collection revises each entry by itself.
use Rattle.babel_value.specs.Orders.{source_cmp}
use Rattle.babel_value.proofs.OrderLaws.{source_total, source_exact}
use Rattle.babel_sources.specs.Sources.{collected_entry}
use Rattle.babel_table.proofs.PlaceLemmas.{find_revised}
use Rattle.babel_sources.proofs.laws.pairs_of_sources.Goals as goal
use Rattle.babel_sources.proofs.PairLemmas.{pair_lowered}

pub returns-clause-lowers : goal.returns-clause-lowers
returns-clause-lowers c = λ now source other sent sources. pair_lowered now source other sent sources

pub returns-clause-collects : goal.returns-clause-collects
returns-clause-collects c = λ now source sources sorted. find_revised source_cmp source_total source_exact (collected_entry now) source sources sorted
