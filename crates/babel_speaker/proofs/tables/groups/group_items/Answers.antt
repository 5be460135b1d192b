-- One more group is made; in the end all are.
use Rattle.std.proofs.Common.{◌+◌, ◌-◌, ◌++◌, ap, sym, ◌∙◌, arith, length, length-append}
use Rattle.babel_state.specs.Grouping.{first_group, in_groups}
use Rattle.babel_state.proofs.Grouping.{parts_length}
use Rattle.babel_speaker.proofs.Groups.{one_more_group, rest_stays}
use Rattle.babel_speaker.proofs.tables.groups.group_items.Goals as goal

pub loop-preserved : goal.loop-preserved
loop-preserved c =
    let items = c.loop.items in
    let spare = c.loop.spare in
    let left = 64 - (c.loop.counter + 1) in
    record {
      done = (λ i. c.move_group.ensures.group i ++ in_groups left (c.move_group.ensures.others i))
          ∙ one_more_group (64 - c.loop.counter) left items spare (omega (arith, c.loop-test.true))
          ∙ c.loop.invariant.done;
      few = omega (arith, c.loop.invariant.few, parts_length spare, length-append items (first_group spare), ap length c.move_group.ensures.group, ap length c.move_group.ensures.others);
    }

pub returns : goal.returns
returns c =
    c.move_all-2.ensures.moved
    ∙ ap (λ l. c.loop.items ++ l) (sym (rest_stays (64 - c.loop.counter) c.loop.spare (omega (arith, c.loop-test.false))))
    ∙ c.loop.invariant.done
