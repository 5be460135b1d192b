-- The neighbour's cost is known, and no other's.
use Rattle.std.proofs.Common.{sym, ap, ◌∙◌}
use Rattle.std.specs.Ordering.{is_eq}
use Rattle.babel_value.specs.Orders.{peer_cmp}
use Rattle.babel_value.proofs.OrderLaws.{peer_exact}
use Rattle.babel_value.proofs.Orderings.{equal}
use Rattle.babel_speaker.specs.Costs.{link_cost}
use Rattle.babel_speaker.proofs.tables.link_costs.KnownCostsCosts.cost.Goals as goal

pub returns-then-is_eq : goal.returns-then-is_eq
returns-then-is_eq c =
    let costs = c.args.self.now in
    let peer = c.args.peer.now in
    let known = costs.known.now.peer in
    let tied = sym (ap is_eq c.cmp.ensures) ∙ sym c.if-is_eq.ensures in
    let same = peer_exact peer known (equal (peer_cmp peer known) tied) in
    costs.is_known ∙ ap (link_cost costs.links.interfaces.now costs.links.neighbours.now) (sym same)
