-- The entry was changed in its place, or added: the order is kept, no deadline is earlier than the kept one, and the link costs what it did if that is said.
use Rattle.std.proofs.Common.{sym, ap, ◌∙◌, subst, arith}
use Rattle.babel_link.specs.Neighbours.{cost_of}
use Rattle.std.specs.Option.{unwrap_or}
use Rattle.babel_link.specs.Links.{new_link}
use Rattle.babel_link.specs.Places.{IsPlaceOf}
use Rattle.babel_link.proofs.ChangeLemmas.{put_cost_kept, put_cost_same, written_cost_kept, written_cost_same}
use Rattle.babel_link.proofs.PlaceLemmas.{is_sorted-written}
use Rattle.babel_link.proofs.DueLemmas.{quiet_earlier, are_quiet_earlier, quiet_set}
use Rattle.babel_link.proofs.neighbours.Neighbours.hear.Goals as goal

pub invariant_of-self : goal.invariant_of-self
invariant_of-self c =
    let items = c.self.inside.links.items in
    let link = c.hear-effect.new.self in
    let here = subst (λ links. IsPlaceOf c.args.peer links c.in-Ok.place) (sym c.self.view_is) c.in-Ok.ensures.found in
    let one = quiet_earlier c.due-due.result c.min-self-inside.result link (omega arith) c.due-due.ensures in
    let all = are_quiet_earlier c.self.inside.due c.min-self-inside.result items (omega arith) c.self.invariant.3 in
    (omega arith, omega arith, is_sorted-written items c.self.invariant.2 c.args.peer _ _ link here c.index_mut.ensures.value, quiet_set c.min-self-inside.result items c.in-Ok.place c.index_mut.result.now.0 link one all)

pub returns-in-Ok-clause-kept : goal.returns-in-Ok-clause-kept
returns-in-Ok-clause-kept c kept nominal =
    let items = c.self.inside.links.items in
    let here = subst (λ links. IsPlaceOf c.args.peer links c.in-Ok.place) (sym c.self.view_is) c.in-Ok.ensures.found in
    rw (← c.self.view_is) (written_cost_kept c.args.peer items c.in-Ok.place c.index_mut.result.now c.hear-effect.new.self here c.index_mut.ensures.value (c.hear-effect.ensures.kept kept) nominal)

pub returns-else-len-eq-MAX_NEIGHBOURS-clause-kept : goal.returns-else-len-eq-MAX_NEIGHBOURS-clause-kept
returns-else-len-eq-MAX_NEIGHBOURS-clause-kept c kept nominal =
    rw c.add.ensures (put_cost_kept c.args.peer c.new-link.result c.hear-effect-in-Err.new.self c.args.self.now
    (c.new-link.ensures ∙ ap (λ o. unwrap_or o new_link) (sym c.in-Err.ensures.absent.absent))
    (c.hear-effect-in-Err.ensures.kept kept) nominal)

pub returns-in-Ok-clause-changed : goal.returns-in-Ok-clause-changed
returns-in-Ok-clause-changed c changed = λ same.
    let items = c.self.inside.links.items in
    let link = c.hear-effect.new.self in
    let here = subst (λ links. IsPlaceOf c.args.peer links c.in-Ok.place) (sym c.self.view_is) c.in-Ok.ensures.found in
    c.hear-effect.ensures.changed changed (written_cost_same c.args.peer items c.in-Ok.place c.index_mut.result.now link here c.index_mut.ensures.value 0 (same ∙ ap (cost_of c.args.peer 0) (sym c.self.view_is)))

pub returns-else-len-eq-MAX_NEIGHBOURS-clause-changed : goal.returns-else-len-eq-MAX_NEIGHBOURS-clause-changed
returns-else-len-eq-MAX_NEIGHBOURS-clause-changed c changed = λ same.
    let link = c.hear-effect-in-Err.new.self in
    c.hear-effect-in-Err.ensures.changed changed (put_cost_same c.args.peer c.new-link.result link c.args.self.now
    (c.new-link.ensures ∙ ap (λ o. unwrap_or o new_link) (sym c.in-Err.ensures.absent.absent)) 0 (ap (cost_of c.args.peer 0) (sym c.add.ensures) ∙ same))
