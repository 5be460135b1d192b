-- An entry with the peer's key is at the peer's place.
use Rattle.std.proofs.Common.{sym, ap, ◌∙◌}
use Rattle.std.specs.Ordering.{is_eq}
use Rattle.babel_link.proofs.PlaceLemmas.{place_of_entry}
use Rattle.babel_link.proofs.neighbours.Neighbours.is_at.Goals as goal
use Rattle.babel_value.proofs.StatedOrders.{cmp_of_peers}

pub returns-in-Some : goal.returns-in-Some
returns-in-Some c found =
    let e = c.in-Some.entry.now in
    let peer = c.args.peer.now in
    let lookup = rw c.deref.ensures.value at c.in-Some.ensures.lookup in
    let same = sym (c.is_eq.ensures ∙ ap is_eq (c.cmp.ensures ∙ cmp_of_peers e.0 peer)) ∙ found in
    rw (← c.self.view_is) (place_of_entry c.self.inside.links.items c.self.invariant.2 peer c.args.place e lookup.3.0 lookup.1 same)
