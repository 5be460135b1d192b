-- A link that costs what it did over one interface does so over each. If something else is said, it costs something else.
use Rattle.std.proofs.Common.{sym, ◌∙◌}
use Rattle.babel_link.proofs.ChangeLemmas.{same_costs, not_both}
use Rattle.babel_link.proofs.links.Link.hear_ihu.Goals as goal

pub returns-clause-kept : goal.returns-clause-kept
returns-clause-kept c kept = same_costs c.ihu.new.self c.args.self.now (c.cost_since.ensures.0 kept ∙ c.finite_cost-before.ensures)

pub returns-clause-changed : goal.returns-clause-changed
returns-clause-changed c changed = λ same. not_both _ (c.cost_since.ensures.1 (same ∙ sym c.finite_cost-before.ensures)) changed
