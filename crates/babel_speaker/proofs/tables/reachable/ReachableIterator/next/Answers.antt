-- The lesser of the next announced and the next selected prefix comes next.
use Rattle.std.proofs.Common.{◌≡◌, ◌∷◌, List, false, sym, refl, ap, ◌∙◌, length, rules}
use Rattle.std.specs.declared.cmp.Ordering.{Ordering}
use Rattle.std.specs.declared.cmp.Ordering.TheVariants.{Less, Equal, Greater}
use Rattle.std.specs.Ordering.{is_eq, is_gt}
use Rattle.babel_value.specs.Prefixes.{PrefixValue}
use Rattle.babel_value.proofs.Orderings.{equal}
use Rattle.babel_table.proofs.PlaceLemmas.{greater}
use Rattle.babel_speaker.proofs.Reaching.{ends, only_selected, only_own, own_less, selected_less, both_same}
use Rattle.babel_speaker.proofs.tables.reachable.ReachableIterator.next.Goals.{then-is_eq, else-is_eq}
use Rattle.babel_speaker.proofs.tables.reachable.ReachableIterator.next.Goals as goal

neither : (o : Ordering) → is_gt o ≡ false → is_eq o ≡ false → o ≡ Less
neither Less later same = refl
neither Equal later same = cc
neither Greater later same = cc

pub returns-in_err-selection-clause-steps : goal.returns-in_err-selection-clause-steps
returns-in_err-selection-clause-steps c =
    let walk = c.self.inside in
    let end = sym c.self.view_is ∙ ends walk.announced.now walk.routes.now.selections walk.own walk.selected (sym c.in_default.ensures.prefix) (sym c.in_err-selection.ensures.selection) in
    rw c.from_residual.ensures (end, end)

pub returns-in_default-clause-steps : goal.returns-in_default-clause-steps
returns-in_default-clause-steps c =
    let walk = c.self.inside in
    sym c.self.view_is
    ∙ only_selected walk.announced.now walk.routes.now.selections walk.own walk.selected c.in_ok-selection.selection c.self.invariant.1 (sym c.in_default.ensures.prefix) (sym c.in_ok-selection.ensures.selection)

pub returns-in_default-clause-goes : goal.returns-in_default-clause-goes
returns-in_default-clause-goes c =
    let shorter = ap length (returns-in_default-clause-steps c) in search rules

pub returns-in_default-selection_at-clause-steps : goal.returns-in_default-selection_at-clause-steps
returns-in_default-selection_at-clause-steps c =
    let walk = c.self.inside in
    sym c.self.view_is
    ∙ only_own walk.announced.now walk.routes.now.selections walk.own walk.selected c.in-Some.own c.self.invariant.0 (sym c.in-Some.ensures.prefix) (sym c.in_default-selection_at.ensures.selection)

pub returns-in_default-selection_at-clause-goes : goal.returns-in_default-selection_at-clause-goes
returns-in_default-selection_at-clause-goes c =
    let shorter = ap length (returns-in_default-selection_at-clause-steps c) in search rules

pub returns-then-is_gt-clause-steps : goal.returns-then-is_gt-clause-steps
returns-then-is_gt-clause-steps c =
    let walk = c.self.inside in
    sym c.self.view_is
    ∙ selected_less walk.announced.now walk.routes.now.selections walk.own walk.selected c.in-Some.own c.in-Some-selection_at.selection c.self.invariant.0 c.self.invariant.1 (sym c.in-Some.ensures.prefix) (sym c.in-Some-selection_at.ensures.selection)
    (sym c.compare-order.ensures ∙ greater c.compare-order.result (sym c.if-is_gt.ensures))

pub returns-then-is_gt-clause-goes : goal.returns-then-is_gt-clause-goes
returns-then-is_gt-clause-goes c =
    let shorter = ap length (returns-then-is_gt-clause-steps c) in search rules

pub returns-clause-steps : goal.returns-clause-steps
returns-clause-steps c =
    let walk = c.self.inside in
    let own = c.in-Some.own in
    elim c.if-is_eq.branch [
      | then-is_eq w ↦
          sym c.self.view_is
          ∙ both_same walk.announced.now walk.routes.now.selections walk.own walk.selected own c.in-Some-selection_at.selection c.self.invariant.0 c.self.invariant.1 (sym c.in-Some.ensures.prefix) (sym c.in-Some-selection_at.ensures.selection)
          (sym c.compare-order.ensures ∙ equal c.compare-order.result (sym w.if-is_eq.ensures))
          ∙ ap (λ (ps : List PrefixValue). own ∷ ps) (sym w.self-is)
      | else-is_eq w ↦
          sym c.self.view_is
          ∙ own_less walk.announced.now walk.routes.now.selections walk.own walk.selected own c.in-Some-selection_at.selection c.self.invariant.0 c.self.invariant.1 (sym c.in-Some.ensures.prefix) (sym c.in-Some-selection_at.ensures.selection)
          (sym c.compare-order.ensures ∙ neither c.compare-order.result (sym c.if-is_gt.ensures) (sym w.if-is_eq.ensures))
          ∙ ap (λ (ps : List PrefixValue). own ∷ ps) (sym w.self-is)
    ]

pub returns-clause-goes : goal.returns-clause-goes
returns-clause-goes c =
    let shorter = ap length (returns-clause-steps c) in search rules
