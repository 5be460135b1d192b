-- One more entry is left where it is, with its value or another.
use Rattle.std.proofs.Common.{◌≡◌, Some, get_or, set, sym, ap, ◌∙◌, arith}
use Rattle.std.proofs.lemmas.List.{length-set, set-get_or, get_or_default}
use Rattle.babel_table.specs.Revisions.{revised_value}
use Rattle.babel_table.proofs.DueLemmas.{due_written, last_written}
use Rattle.babel_table.proofs.RevisionLemmas.{left_more}
use Rattle.babel_table.proofs.revisions.revise_in_place.Goals as goal
use Rattle.babel_table.proofs.revisions.revise_in_place.Goals.{in-Kept, in-Changed}

pub loop-index-preserved : goal.loop-index-preserved
loop-index-preserved g c =
    let f = g.R.Revision.revised c.args.revision.now in
    let es = c.loop-index.entries in
    let i = c.loop-index.index in
    let d = c.index-entries-index.result in
    let e = get_or es i d in
    elim c.match-revise.branch [
      | in-Kept w ↦
          let is : c.match-revise.entries ≡ set es i e = w.entries-is ∙ sym (set-get_or es i d) in
          let stays : f e.0 e.1 ≡ Some e.1 = sym c.revise.ensures ∙ ap (revised_value e.1) w.in-Kept.is in
          record {
            left = left_more f es i d (omega arith) i e.1 _ _ (omega arith) stays is c.loop-index.invariant.left;
            same_len = rw w.entries-is c.loop-index.invariant.same_len;
            due = rw is (due_written g.M.Moments.moment_of c.loop-index.due _ es i e (omega arith) (omega arith) (omega arith) c.loop-index.invariant.due);
            last = rw is (last_written g.M.Moments.moment_of c.loop-index.due _ es i e (omega arith) (λ moment before own. omega arith) c.loop-index.invariant.last);
          }
      | in-Changed w ↦
          let v = w.in-Changed.changed in
          let is : c.match-revise.entries ≡ set es i (e.0, v) = w.entries-is ∙ ap (λ (x : g.row.K.Denot × g.row.V.Denot). set es i (x.0, v)) (get_or_default es i _ d (omega arith)) in
          let stays : f e.0 e.1 ≡ Some v = sym c.revise.ensures ∙ ap (revised_value e.1) w.in-Changed.is in
          record {
            left = left_more f es i d (omega arith) i v _ _ (omega arith) stays is c.loop-index.invariant.left;
            same_len = rw is (length-set es i _ ∙ c.loop-index.invariant.same_len);
            due = rw is (due_written g.M.Moments.moment_of c.loop-index.due _ es i (e.0, v) (omega arith) (omega arith) (omega arith) c.loop-index.invariant.due);
            last = rw is (last_written g.M.Moments.moment_of c.loop-index.due _ es i (e.0, v) (omega arith) (λ moment before own. omega arith) c.loop-index.invariant.last);
          }
    ]
