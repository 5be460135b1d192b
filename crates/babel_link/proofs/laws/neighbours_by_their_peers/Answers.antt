-- An entry that is put is found at its own peer, and changes no other.
use Rattle.std.proofs.Common.{◌≡◌, Some, None, refl}
use Rattle.std.specs.FinMap.{find, put}
use Rattle.std.specs.Option.{option_map, option_map_or}
use Rattle.babel_value.specs.Orders.{peer_cmp}
use Rattle.babel_link.specs.Links.{ihu_link}
use Rattle.babel_link.specs.Neighbours.{hello_of, ihu_of}
use Rattle.babel_link.proofs.LookUpLemmas.{find-put_own, find-put_other, find-tick_of}
use Rattle.babel_link.proofs.laws.neighbours_by_their_peers.Goals as goal

pub returns-clause-hello : goal.returns-clause-hello
unfolding hello_of
returns-clause-hello c now peer unicast n interval links = find-put_own peer _ links

pub returns-clause-hello_alone : goal.returns-clause-hello_alone
unfolding hello_of
returns-clause-hello_alone c now peer unicast n interval links q differ = find-put_other q peer _ links differ

pub returns-clause-ihu : goal.returns-clause-ihu
unfolding ihu_of
returns-clause-ihu c now peer rxcost interval links =
    elim (find peer_cmp peer links) as (λ known. find peer_cmp peer links ≡ known → find peer_cmp peer (option_map_or (λ link. put peer_cmp peer (ihu_link now rxcost interval link) links) known links) ≡ option_map (ihu_link now rxcost interval) known) [
      | None ↦ λ absent. absent
      | Some link ↦ λ found. find-put_own peer _ links
    ] refl

pub returns-clause-ihu_alone : goal.returns-clause-ihu_alone
unfolding ihu_of
returns-clause-ihu_alone c now peer rxcost interval links q differ =
    elim (find peer_cmp peer links) as (λ known. find peer_cmp q (option_map_or (λ link. put peer_cmp peer (ihu_link now rxcost interval link) links) known links) ≡ find peer_cmp q links) [
      | None ↦ refl
      | Some link ↦ find-put_other q peer _ links differ
    ]

pub returns-clause-tick : goal.returns-clause-tick
returns-clause-tick c now peer links sorted = find-tick_of now peer links sorted
