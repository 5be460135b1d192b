-- The text is no other number.
use Rattle.std.proofs.Common.{◌≡◌, ◌≤◌, arith}
use Rattle.babel_topology.proofs.Texts.{same_number}
use Rattle.babel_topology.proofs.actions.parse_cost.Goals as goal
use Rattle.babel_topology.proofs.actions.parse_cost.Goals.{else-cost-ge1-via-then-cost-ge1+else-cost-le65534, else-cost-ge1-via-else-cost-ge1}

pub returns-else-cost-ge1 : goal.returns-else-cost-ge1
returns-else-cost-ge1 c value h =
    let same : value ≡ c.in_ok-cost.cost = same_number c.args.text.now value c.in_ok-cost.cost h.0 c.in_ok-cost.ensures in
    let low : 1 ≤ value = h.1.0 in
    let high : value ≤ 65534 = h.1.1 in
    elim c.else-cost-ge1.branch [
      | else-cost-ge1-via-then-cost-ge1+else-cost-le65534 w ↦ absurd (omega arith)
      | else-cost-ge1-via-else-cost-ge1 w ↦ absurd (omega arith)
    ]
