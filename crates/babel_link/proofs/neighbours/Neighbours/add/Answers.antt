-- The entry was inserted in the gap for it: the order is kept, and no deadline is earlier than the kept one.
use Rattle.std.proofs.Common.{◌<◌, length, sym, subst, arith}
use Rattle.babel_link.specs.Places.{IsGapFor}
use Rattle.babel_link.proofs.PlaceLemmas.{is_sorted-inserted}
use Rattle.babel_link.proofs.DueLemmas.{quiet_earlier, are_quiet_earlier, quiet_insert}
use Rattle.babel_link.proofs.neighbours.Neighbours.add.Goals as goal

pub invariant_of-self : goal.invariant_of-self
invariant_of-self c =
    let items = c.self.inside.links.items in
    let items_len = c.self.inside.links.ok.0 in
    let gap = subst (λ links. IsGapFor c.args.peer links c.args.place) (sym c.self.view_is) c.requires.absent in
    let few : length items < 64 = rw c.self.view_is c.requires.room in
    let one = quiet_earlier c.due.result c.min-self-inside.result c.args.link (omega arith) c.due.ensures in
    let all = are_quiet_earlier c.self.inside.due c.min-self-inside.result items (omega arith) c.self.invariant.3 in
    (omega (arith, items_len), omega arith, rw c.insert_reserved.ensures.items (is_sorted-inserted items c.self.invariant.2 c.args.peer _ c.args.link gap), rw c.insert_reserved.ensures.items (quiet_insert c.min-self-inside.result items c.args.place c.args.peer c.args.link one all))
