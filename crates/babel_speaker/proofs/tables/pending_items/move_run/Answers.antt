-- The first Update of the run is moved; in the end none are left.
use Rattle.std.proofs.Common.{◌++◌, ◌∷◌, [], map, length, sym, ap, ◌∙◌, ◌-◌, arith, length-append, length-drop}
use Rattle.std.proofs.lemmas.List.{append-nil}
use Rattle.std.proofs.lemmas.Option.{slice_get_within}
use Rattle.babel_state.specs.declared.items.Item.TheVariants.{Update}
use Rattle.babel_speaker.proofs.Runs.{first_moved}
use Rattle.babel_speaker.proofs.tables.pending_items.move_run.Goals as goal
use Rattle.babel_choice.proofs.RunLemmas.{drop_past}

pub loop-prefix-preserved : goal.loop-prefix-preserved
loop-prefix-preserved c =
    let target = c.args.target.now in
    let items = c.loop-prefix.items in
    let run = c.loop-prefix.run in
    let more = items ++ Update target c.in-Some.prefix ∷ [] in
    let first = sym c.front.ensures ∙ c.in-Some.is in
    record {
      same = (λ i. c.push.ensures.elements i ++ map (Update target) (c.pop.ensures i))
          ∙ first_moved target items c.in-Some.prefix run first c.loop-prefix.invariant.few
          ∙ c.loop-prefix.invariant.same;
      few = omega (arith, c.loop-prefix.invariant.few, slice_get_within run 0 c.in-Some.prefix first, ap length c.push.ensures.elements, ap length c.pop.ensures, length-drop (length more - 4096) more, length-append items (Update target c.in-Some.prefix ∷ []), length-drop 1 run);
    }

pub returns-clause-items : goal.returns-clause-items
returns-clause-items c =
    let items = c.loop-prefix.items in
    let none = drop_past c.loop-prefix.run 0 (sym c.front.ensures ∙ c.in_default.is) in
    sym (append-nil items) ∙ ap (λ run. items ++ map (Update c.args.target.now) run) (sym none) ∙ c.loop-prefix.invariant.same

pub returns-clause-run : goal.returns-clause-run
returns-clause-run c = drop_past c.loop-prefix.run 0 (sym c.front.ensures ∙ c.in_default.is)
