-- A link that costs what it did over one interface does so over each.
use Rattle.std.proofs.Common.{◌≡◌, Some, sym, ◌∙◌}
use Rattle.std.proofs.lemmas.Bool.{eqb-true}
use Rattle.babel_value.specs.Metrics.{infinity}
use Rattle.babel_link.specs.declared.changes.LinkCost.{LinkCost}
use Rattle.babel_link.specs.declared.changes.LinkCost.TheVariants.{Kept, Changed}
use Rattle.babel_link.specs.Links.{link_cost}
use Rattle.babel_link.proofs.ChangeLemmas.{same_costs, not_both}
use Rattle.babel_link.proofs.GrowthLemmas.{stays_infinite}
use Rattle.babel_link.proofs.links.Link.tick_cost.Goals as goal

same_some : (a b : LinkCost) → Some a ≡ Some b → a ≡ b
same_some a b is = cc

pub returns-clause-kept : goal.returns-clause-kept
returns-clause-kept c kept =
    same_costs c.tick.new.self c.args.self.now (c.cost_since.ensures.0 (same_some c.cost_since.result Kept kept) ∙ c.finite_cost-before.ensures)

-- A tick makes no infinite cost finite.
pub returns-then-eq-clause-kept : goal.returns-then-eq-clause-kept
returns-then-eq-clause-kept c kept =
    let lost : link_cost 0 c.args.self.now ≡ infinity = sym c.finite_cost-before.ensures ∙ eqb-true c.finite_cost-before.result infinity (sym c.eq.ensures ∙ c.if-eq.true) in
    same_costs c.tick.new.self c.args.self.now (stays_infinite c.args.now c.args.self.now c.tick.new.self (c.tick.ensures.stays c.if-not-tick.false) lost)

pub returns-clause-changed : goal.returns-clause-changed
returns-clause-changed c changed =
    λ same. not_both _ (c.cost_since.ensures.1 (same ∙ sym c.finite_cost-before.ensures)) (same_some c.cost_since.result Changed changed)
