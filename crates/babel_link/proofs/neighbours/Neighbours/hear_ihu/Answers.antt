-- The entry was changed in its place: the order is kept, no deadline is earlier than the kept one, and the link costs what it did if that is said.
use Rattle.std.proofs.Common.{sym, ap, ◌∙◌, subst, arith}
use Rattle.babel_link.specs.Neighbours.{cost_of}
use Rattle.babel_link.specs.Places.{IsPlaceOf}
use Rattle.babel_link.proofs.ChangeLemmas.{written_cost_kept, written_cost_same}
use Rattle.babel_link.proofs.PlaceLemmas.{is_sorted-written}
use Rattle.babel_link.proofs.DueLemmas.{quiet_earlier, are_quiet_earlier, quiet_set}
use Rattle.babel_link.proofs.neighbours.Neighbours.hear_ihu.Goals as goal

pub invariant_of-self : goal.invariant_of-self
invariant_of-self c =
    let items = c.self.inside.links.items in
    let link = c.hear_ihu-cost.new.self in
    let here = subst (λ links. IsPlaceOf c.args.peer links c.in-Ok.place) (sym c.self.view_is) c.in-Ok.ensures.found in
    let one = quiet_earlier c.due-due.result c.min-self-inside.result link (omega arith) c.due-due.ensures in
    let all = are_quiet_earlier c.self.inside.due c.min-self-inside.result items (omega arith) c.self.invariant.3 in
    (omega arith, omega arith, is_sorted-written items c.self.invariant.2 c.args.peer _ _ link here c.index_mut.ensures.value, quiet_set c.min-self-inside.result items c.in-Ok.place c.index_mut.result.now.0 link one all)

pub returns-clause-kept : goal.returns-clause-kept
returns-clause-kept c kept nominal =
    let items = c.self.inside.links.items in
    let here = subst (λ links. IsPlaceOf c.args.peer links c.in-Ok.place) (sym c.self.view_is) c.in-Ok.ensures.found in
    rw (← c.self.view_is) (written_cost_kept c.args.peer items c.in-Ok.place c.index_mut.result.now c.hear_ihu-cost.new.self here c.index_mut.ensures.value (c.hear_ihu-cost.ensures.kept kept) nominal)

pub returns-clause-changed : goal.returns-clause-changed
returns-clause-changed c changed = λ same.
    let items = c.self.inside.links.items in
    let link = c.hear_ihu-cost.new.self in
    let here = subst (λ links. IsPlaceOf c.args.peer links c.in-Ok.place) (sym c.self.view_is) c.in-Ok.ensures.found in
    c.hear_ihu-cost.ensures.changed changed (written_cost_same c.args.peer items c.in-Ok.place c.index_mut.result.now link here c.index_mut.ensures.value 0 (same ∙ ap (cost_of c.args.peer 0) (sym c.self.view_is)))
