-- The entry at a place has as many before it.
use Rattle.std.proofs.Common.{ap, ◌∙◌}
use Rattle.std.specs.List.{count_by}
use Rattle.babel_link.specs.Neighbours.{comes_before}
use Rattle.babel_link.proofs.PlaceLemmas.{count_before}
use Rattle.babel_link.proofs.neighbours.Neighbours.at.Goals as goal

pub returns-clause-lesser : goal.returns-clause-lesser
returns-clause-lesser c =
    let items = c.self.inside.links.items in
    let e = c.in_ok-peer.field-0.now in
    let lookup = rw c.deref.ensures.value at c.in_ok-peer.ensures.lookup in
    let counted = count_before items c.self.invariant.2 c.args.place e lookup.3.0 in
    rw (← c.self.view_is) (ap (λ x. count_by (comes_before x.0) items) lookup.1 ∙ counted)
