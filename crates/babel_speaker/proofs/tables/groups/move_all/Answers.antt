-- The first item is moved; in the end none are left.
use Rattle.std.proofs.Common.{◌++◌, ◌∷◌, [], length, sym, ap, ◌∙◌, ◌-◌, arith, length-append, length-drop}
use Rattle.std.proofs.lemmas.List.{append-nil}
use Rattle.std.proofs.lemmas.Option.{slice_get_within}
use Rattle.babel_choice.proofs.RunLemmas.{drop_past}
use Rattle.babel_speaker.proofs.Groups.{item_moved}
use Rattle.babel_speaker.proofs.tables.groups.move_all.Goals as goal

pub loop-item-preserved : goal.loop-item-preserved
loop-item-preserved c =
    let to = c.loop-item.to in
    let from = c.loop-item.from in
    let more = to ++ c.in-Some.item ∷ [] in
    let first = sym c.front.ensures ∙ c.in-Some.is in
    record {
      same = (λ i. c.push.ensures.elements i ++ c.pop.ensures i)
          ∙ item_moved to from c.in-Some.item first c.loop-item.invariant.few
          ∙ c.loop-item.invariant.same;
      few = omega (arith, c.loop-item.invariant.few, slice_get_within from 0 c.in-Some.item first, ap length c.push.ensures.elements, ap length c.pop.ensures, length-drop (length more - 4096) more, length-append to (c.in-Some.item ∷ []), length-drop 1 from);
    }

pub returns-clause-moved : goal.returns-clause-moved
returns-clause-moved c =
    let to = c.loop-item.to in
    let none = drop_past c.loop-item.from 0 (sym c.front.ensures ∙ c.in_default.is) in
    sym (append-nil to) ∙ ap (λ from. to ++ from) (sym none) ∙ c.loop-item.invariant.same

pub returns-clause-none : goal.returns-clause-none
returns-clause-none c = drop_past c.loop-item.from 0 (sym c.front.ensures ∙ c.in_default.is)
