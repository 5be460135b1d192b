-- The number and the unit that were read.
use Rattle.babel_text.specs.Numbers.{IsNumberText}
use Rattle.babel_topology.specs.Times.{IsUnitText}
use Rattle.babel_topology.proofs.Texts.{pair}
use Rattle.babel_topology.proofs.times.parse_time.Goals as goal

pub returns : goal.returns
returns c = (
  (c.in_ok-count-2.count, c.in_ok-unit.unit),
  pair (IsNumberText 16) IsUnitText c.args.text.now c.in_ok-count.count.now c.in_ok-count.unit.now c.in_ok-count-2.count c.in_ok-unit.unit
      c.in_ok-count.ensures.parted c.in_ok-count.ensures.word c.in_ok-count.ensures.rest c.in_ok-count-2.ensures c.in_ok-unit.ensures,
  c.centiseconds.ensures,
)
