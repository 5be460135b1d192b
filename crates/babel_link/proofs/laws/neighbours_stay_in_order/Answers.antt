-- To put an entry keeps the order, and so does a tick.
use Rattle.std.proofs.Common.{◌≡◌, true, Some, None}
use Rattle.std.specs.FinMap.{find, put, is_sorted}
use Rattle.std.specs.Option.{option_map_or}
use Rattle.babel_value.specs.Orders.{peer_cmp}
use Rattle.babel_link.specs.Links.{ihu_link}
use Rattle.babel_link.specs.Neighbours.{hello_of, ihu_of}
use Rattle.babel_link.proofs.PlaceLemmas.{is_sorted-put_link}
use Rattle.babel_link.proofs.TickLemmas.{is_sorted-tick_of}
use Rattle.babel_link.proofs.laws.neighbours_stay_in_order.Goals as goal

pub returns-clause-hello : goal.returns-clause-hello
unfolding hello_of
returns-clause-hello c now peer unicast n interval links sorted = is_sorted-put_link links sorted peer _

pub returns-clause-ihu : goal.returns-clause-ihu
unfolding ihu_of
returns-clause-ihu c now peer rxcost interval links sorted =
    elim (find peer_cmp peer links) as (λ known. is_sorted peer_cmp (option_map_or (λ link. put peer_cmp peer (ihu_link now rxcost interval link) links) known links) ≡ true) [
      | None ↦ sorted
      | Some link ↦ is_sorted-put_link links sorted peer _
    ]

pub returns-clause-tick : goal.returns-clause-tick
returns-clause-tick c now links sorted = is_sorted-tick_of now links sorted
