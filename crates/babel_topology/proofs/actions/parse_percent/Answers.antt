-- The text is no other number.
use Rattle.std.proofs.Common.{◌≡◌, ◌≤◌, arith}
use Rattle.babel_topology.proofs.Texts.{same_number}
use Rattle.babel_topology.proofs.actions.parse_percent.Goals as goal

pub returns-else-percent-le100 : goal.returns-else-percent-le100
returns-else-percent-le100 c value h =
    let same : value ≡ c.in_ok-percent.percent = same_number c.in_ok-number.number.now value c.in_ok-percent.percent (rw c.in_ok-number.ensures.word h.1) c.in_ok-percent.ensures in
    let high : value ≤ 100 = h.3 in
    absurd (omega arith)
