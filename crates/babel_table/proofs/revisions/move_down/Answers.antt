-- One more entry is written after those that are left, or goes.
use Rattle.std.proofs.Common.{◌≡◌, Some, None, get_or, set, sym, ap, ◌∙◌, arith}
use Rattle.std.proofs.lemmas.List.{length-set, get_or_default}
use Rattle.babel_table.specs.Revisions.{revised_value}
use Rattle.babel_table.proofs.DueLemmas.{due_written, last_written}
use Rattle.babel_table.proofs.RevisionLemmas.{left_more, left_same}
use Rattle.babel_table.proofs.revisions.move_down.Goals as goal
use Rattle.babel_table.proofs.revisions.move_down.Goals.{in-Kept, in-Changed, in-Removed}

pub loop-index-preserved : goal.loop-index-preserved
loop-index-preserved g c =
    let f = g.R.Revision.revised c.args.revision.now in
    let es = c.loop-index.entries in
    let i = c.loop-index.index in
    let count = c.loop-index.count in
    let d = c.index-entries-index.result in
    let e = get_or es i d in
    elim c.match-revise.branch [
      | in-Kept w ↦
          let is : c.match-revise.entries ≡ set es count e = w.entries-is ∙ ap (set es count) (w.index-entries-index-in-Kept.is ∙ get_or_default es i _ d (omega arith)) in
          let stays : f e.0 e.1 ≡ Some e.1 = sym c.revise.ensures ∙ ap (revised_value e.1) w.in-Kept.is in
          record {
            left = rw w.count-is (left_more f es i d (omega arith) count e.1 _ _ c.loop-index.invariant.late stays is c.loop-index.invariant.left);
            late = omega arith;
            same_len = rw is (length-set es count _ ∙ c.loop-index.invariant.same_len);
            due = rw (is, w.count-is) (due_written g.M.Moments.moment_of c.loop-index.due _ es count e (omega arith) (omega arith) (omega arith) c.loop-index.invariant.due);
            last = rw (is, w.count-is) (last_written g.M.Moments.moment_of c.loop-index.due _ es count e (omega arith) (λ moment before own. omega arith) c.loop-index.invariant.last);
          }
      | in-Changed w ↦
          let v = w.in-Changed.changed in
          let stays : f e.0 e.1 ≡ Some v = sym c.revise.ensures ∙ ap (revised_value e.1) w.in-Changed.is in
          record {
            left = rw w.count-is (left_more f es i d (omega arith) count v _ _ c.loop-index.invariant.late stays w.entries-is c.loop-index.invariant.left);
            late = omega arith;
            same_len = rw w.entries-is (length-set es count _ ∙ c.loop-index.invariant.same_len);
            due = rw (w.entries-is, w.count-is) (due_written g.M.Moments.moment_of c.loop-index.due _ es count (e.0, v) (omega arith) (omega arith) (omega arith) c.loop-index.invariant.due);
            last = rw (w.entries-is, w.count-is) (last_written g.M.Moments.moment_of c.loop-index.due _ es count (e.0, v) (omega arith) (λ moment before own. omega arith) c.loop-index.invariant.last);
          }
      | in-Removed w ↦
          let goes : f e.0 e.1 ≡ None = sym c.revise.ensures ∙ ap (revised_value e.1) w.in-Removed.is in
          record {
            left = rw (w.entries-is, w.count-is) (left_same f es i d (omega arith) _ _ goes c.loop-index.invariant.left);
            late = omega arith;
            same_len = rw w.entries-is c.loop-index.invariant.same_len;
            due = rw (w.entries-is, w.count-is, w.due-is) c.loop-index.invariant.due;
            last = rw (w.entries-is, w.count-is, w.due-is) c.loop-index.invariant.last;
          }
    ]
