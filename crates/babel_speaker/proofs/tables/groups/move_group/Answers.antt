-- One more item is sorted out; in the end all are.
use Rattle.std.proofs.Common.{◌+◌, ◌-◌, ap, sym, ◌∙◌, arith, length}
use Rattle.babel_speaker.proofs.Groups.{one_sorted_out, none_is_lost, group_moved}
use Rattle.babel_speaker.proofs.tables.groups.move_group.Goals as goal

pub loop-preserved : goal.loop-preserved
loop-preserved c =
    let from = c.loop.from in
    let to = c.loop.to in
    let target = c.item_target-target.result in
    let count = length c.args.from.now in
    record {
      done = one_sorted_out target (count - c.loop.counter) (count - (c.loop.counter + 1)) from to c.move_first.new.from c.move_first.new.to (omega (arith, c.loop-test.true, c.len-end.ensures.len)) c.move_first.ensures.from c.move_first.ensures.to
          ∙ c.loop.invariant.done;
      few = omega (arith, c.loop.invariant.few, none_is_lost target from to, ap length c.move_first.ensures.from, ap length c.move_first.ensures.to);
    }

pub returns-clause-group : goal.returns-clause-group
returns-clause-group c =
    (group_moved c.item_target-target.result c.args.from.now c.args.to.now c.loop.from c.loop.to c.in-Some.first (length c.args.from.now - c.loop.counter) c.item_target-target.ensures (sym c.front.ensures ∙ c.in-Some.is)
    (omega (arith, c.loop-test.false, c.len-end.ensures.len)) c.loop.invariant.done).1

pub returns-clause-others : goal.returns-clause-others
returns-clause-others c =
    (group_moved c.item_target-target.result c.args.from.now c.args.to.now c.loop.from c.loop.to c.in-Some.first (length c.args.from.now - c.loop.counter) c.item_target-target.ensures (sym c.front.ensures ∙ c.in-Some.is)
    (omega (arith, c.loop-test.false, c.len-end.ensures.len)) c.loop.invariant.done).0
