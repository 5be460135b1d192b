-- The number and the unit that were read.
use Rattle.babel_topology.proofs.Texts.{timed}
use Rattle.babel_topology.proofs.times.parse_timed.Goals as goal

pub returns-clause-ok : goal.returns-clause-ok
returns-clause-ok c = timed c.args.text.now c.in_ok-count.count.now c.in_ok-count.after_count.now c.in_ok-unit.unit.now c.in_ok-unit.rest.now
    c.in_ok-count-2.count c.in_ok-unit-2.unit _
    c.in_ok-count.ensures.parted c.in_ok-count.ensures.word c.in_ok-count.ensures.rest
    c.in_ok-unit.ensures.parted c.in_ok-unit.ensures.word c.in_ok-unit.ensures.rest
    c.in_ok-count-2.ensures c.in_ok-unit-2.ensures c.centiseconds.ensures
