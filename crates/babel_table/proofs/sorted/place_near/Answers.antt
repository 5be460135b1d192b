-- The key at the index is the sought one.
use Rattle.std.proofs.Common.{sym, ap, ◌∙◌}
use Rattle.std.specs.Ordering.{is_eq}
use Rattle.babel_table.proofs.NearLemmas.{at_there}
use Rattle.babel_table.proofs.sorted.place_near.Goals as goal

pub returns-then-is_eq-clause-found : goal.returns-then-is_eq-clause-found
returns-then-is_eq-clause-found g c = (
  c.item.result.now.1,
  at_there g.K.Key.order g.met.K.Key.exact c.args.key.now (g.Q.Sequence.items c.args.table.now.entries) c.args.near c.item.result.now c.item.ensures (sym (ap is_eq c.order_of.ensures) ∙ sym c.is_eq.ensures ∙ c.if-is_eq.true),
)
