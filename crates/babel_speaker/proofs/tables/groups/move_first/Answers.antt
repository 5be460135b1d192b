-- The first item goes to the end of the other queue, or of its own.
use Rattle.std.proofs.Common.{[], ◌∷◌, ◌++◌, sym, ap, ◌∙◌}
use Rattle.circular_buffer.specs.Buffer.{keep_last}
use Rattle.babel_choice.proofs.RunLemmas.{drop_past}
use Rattle.babel_state.specs.NextDatagram.{is_same_target}
use Rattle.babel_speaker.proofs.Groups.{nothing_turned, first_goes, first_stays}
use Rattle.babel_speaker.proofs.tables.groups.move_first.Goals as goal

pub returns-in_default-clause-from : goal.returns-in_default-clause-from
returns-in_default-clause-from c =
    (nothing_turned c.args.target.now c.args.from.now c.args.to.now (drop_past c.args.from.now 0 (sym c.front.ensures ∙ c.in_default.is))).0

pub returns-in_default-clause-to : goal.returns-in_default-clause-to
returns-in_default-clause-to c =
    (nothing_turned c.args.target.now c.args.from.now c.args.to.now (drop_past c.args.from.now 0 (sym c.front.ensures ∙ c.in_default.is))).1

pub returns-then-is_same_target-clause-from : goal.returns-then-is_same_target-clause-from
returns-then-is_same_target-clause-from c =
    let target = c.args.target.now in
    let goes = ap (is_same_target target) (sym c.item_target.ensures) ∙ sym c.is_same_target.ensures.same ∙ c.if-is_same_target.true in
    c.pop.ensures
    ∙ (first_goes target c.args.from.now c.args.to.now c.in-Some.item (sym c.front.ensures ∙ c.in-Some.is) goes c.requires).0

pub returns-then-is_same_target-clause-to : goal.returns-then-is_same_target-clause-to
returns-then-is_same_target-clause-to c =
    let target = c.args.target.now in
    let goes = ap (is_same_target target) (sym c.item_target.ensures) ∙ sym c.is_same_target.ensures.same ∙ c.if-is_same_target.true in
    c.push.ensures.elements
    ∙ (first_goes target c.args.from.now c.args.to.now c.in-Some.item (sym c.front.ensures ∙ c.in-Some.is) goes c.requires).1

pub returns-else-is_same_target-clause-from : goal.returns-else-is_same_target-clause-from
returns-else-is_same_target-clause-from c =
    let target = c.args.target.now in
    let goes = ap (is_same_target target) (sym c.item_target.ensures) ∙ sym c.is_same_target.ensures.same ∙ c.if-is_same_target.false in
    c.push-else-is_same_target.ensures.elements
    ∙ ap (λ l. keep_last 4096 (l ++ c.in-Some.item ∷ [])) c.pop.ensures
    ∙ (first_stays target c.args.from.now c.args.to.now c.in-Some.item (sym c.front.ensures ∙ c.in-Some.is) goes c.requires).0

pub returns-else-is_same_target-clause-to : goal.returns-else-is_same_target-clause-to
returns-else-is_same_target-clause-to c =
    let target = c.args.target.now in
    let goes = ap (is_same_target target) (sym c.item_target.ensures) ∙ sym c.is_same_target.ensures.same ∙ c.if-is_same_target.false in
    (first_stays target c.args.from.now c.args.to.now c.in-Some.item (sym c.front.ensures ∙ c.in-Some.is) goes c.requires).1
