-- Selections that pass the test are the same.
use Rattle.std.proofs.Common.{◌≡◌, true, Option, Some, None, refl}
use Rattle.std.proofs.lemmas.Bool.{and_parts, eqb-true}
use Rattle.babel_value.specs.declared.distances.Distance.{Distance}
use Rattle.std.specs.Prelude.{nat_eq}
use Rattle.std.specs.Ordering.{eq_by_cmp}
use Rattle.babel_value.specs.Orders.{octets_cmp, addr_cmp, peer_cmp}
use Rattle.babel_value.proofs.OrderLaws.{octets_exact, addr_exact, peer_exact}
use Rattle.babel_value.proofs.Orderings.{equal}
use Rattle.babel_choice.specs.declared.entries.Entry.{Entry}
use Rattle.babel_choice.specs.declared.entries.Selection.{Selection}
use Rattle.babel_route.specs.Currency.{is_same_distance, is_same_entry, is_same_selection}

pub same_distance : (a b : Distance) → is_same_distance a b ≡ true → a ≡ b
same_distance a b same =
    let parts = and_parts (nat_eq a.seqno b.seqno) (nat_eq a.metric b.metric) same in
    let seqno = eqb-true a.seqno b.seqno parts.0 in
    let metric = eqb-true a.metric b.metric parts.1 in
    λ i. record { seqno = seqno i; metric = metric i }

pub same_entry : (a b : Entry) → is_same_entry a b ≡ true → a ≡ b
same_entry a b same =
    let first = and_parts (eq_by_cmp octets_cmp a.router b.router) _ same in
    let second = and_parts (is_same_distance a.distance b.distance) _ first.1 in
    let third = and_parts (eq_by_cmp addr_cmp a.next_hop b.next_hop) _ second.1 in
    let fourth = and_parts (nat_eq a.interval b.interval) (nat_eq a.deadline b.deadline) third.1 in
    let router = octets_exact a.router b.router (equal (octets_cmp a.router b.router) first.0) in
    let distance = same_distance a.distance b.distance second.0 in
    let next_hop = addr_exact a.next_hop b.next_hop (equal (addr_cmp a.next_hop b.next_hop) third.0) in
    let interval = eqb-true a.interval b.interval fourth.0 in
    let deadline = eqb-true a.deadline b.deadline fourth.1 in
    λ i. record { router = router i; distance = distance i; next_hop = next_hop i; interval = interval i; deadline = deadline i }

pub same_selection : (old new : Option Selection) → is_same_selection old new ≡ true → old ≡ new
unfolding is_same_selection
same_selection None None same = refl
same_selection None (Some b) same = cc
same_selection (Some a) None same = cc
same_selection (Some a) (Some b) same =
    let parts = and_parts (eq_by_cmp peer_cmp a.peer b.peer) (is_same_entry a.entry b.entry) same in
    let peer = peer_exact a.peer b.peer (equal (peer_cmp a.peer b.peer) parts.0) in
    let entry = same_entry a.entry b.entry parts.1 in
    λ i. Some (record { peer = peer i; entry = entry i })
