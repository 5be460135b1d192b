-- One more entry is due no earlier than the least moment so far and its own; the walk takes all.
use Rattle.std.proofs.Common.{◌<◌, length, take, sym, subst, ◌∙◌, arith}
use Rattle.std.proofs.lemmas.List.{take_all}
use Rattle.babel_table.specs.Dues.{AreDueFrom}
use Rattle.babel_table.proofs.DueLemmas.{due_earlier, due_more, due_there}
use Rattle.babel_table.proofs.PlaceLemmas.{past_end}
use Rattle.babel_table.proofs.dues.least_due.Goals as goal
use Rattle.babel_table.proofs.dues.least_due.Goals.{in-Some, in_default}

pub loop-place-preserved : goal.loop-place-preserved
loop-place-preserved g c =
    let due = g.V.Due.due_of in
    let es = g.T.Table.entries c.args.table.now in
    let place = c.loop-place.place in
    let before = c.loop-place.invariant in
    let within : place < length es = omega (arith, c.loop-place-test.true, c.len-place-end.ensures.len) in
    elim c.match-at.branch [
      | in-Some w ↦
          let least = w.min-least.result in
          let there = sym c.at.ensures ∙ w.in-Some.is in
          record {
            due = rw w.least-is (due_more due least es place w.in-Some.entry within there (omega (arith, w.due.ensures)) (due_earlier due c.loop-place.least least (take place es) (omega arith) before.due));
            greatest = λ moment fits all. rw w.least-is (omega (arith, w.due.ensures, before.greatest moment fits all, due_there due moment es place w.in-Some.entry within there all));
          }
      | in_default w ↦ absurd (omega (arith, within, past_end es place (sym c.at.ensures ∙ w.in_default.is)))
    ]

pub returns-clause-due : goal.returns-clause-due
returns-clause-due g c =
    let es = g.T.Table.entries c.args.table.now in
    subst (AreDueFrom g.V.Due.due_of c.loop-place.least) (take_all c.loop-place.place es (omega (arith, c.loop-place-test.false, c.len-place-end.ensures.len))) c.loop-place.invariant.due
