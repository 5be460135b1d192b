-- What the binary search says of the places among the neighbours, which are in order.
use Rattle.std.proofs.Common.{rules, subst}
use Rattle.std.specs.List.Sorted.{IsBinarySearchResult}
use Rattle.std.proofs.lemmas.List.Sorted.{answers_always}
use Rattle.babel_link.proofs.PlaceLemmas.{searched}
use Rattle.babel_link.proofs.neighbours.Neighbours.search.Goals as goal
use Rattle.babel_value.proofs.StatedOrders.{cmp_of_peers}

pub returns : goal.returns
returns c =
    let facts = c.binary_search_by_key.ensures in
    let by_key = facts.position (λ entry. entry.0) (answers_always _ _ _ (λ f a r g called. search rules)) in
    let in_order = subst (λ ord. IsBinarySearchResult ord c.deref.result.now c.binary_search_by_key.result) (λ i e. cmp_of_peers e.0 c.args.peer.now i) by_key in
    rw (← c.self.view_is, ← c.deref.ensures.value) (searched _ (rw c.deref.ensures.value c.self.invariant.2) c.args.peer.now _ facts.bound in_order)
