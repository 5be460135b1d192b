-- The neighbour of the selection at the index, or there is none.
use Rattle.std.proofs.Common.{refl, sym, ap}
use Rattle.babel_value.specs.Orders.{prefix_cmp}
use Rattle.babel_table.proofs.PlaceLemmas.{missing}
use Rattle.babel_choice.specs.Choices.{peer_before}
use Rattle.babel_route.proofs.ChangeLemmas.{found_at}
use Rattle.babel_route.proofs.routes.current.selected_peer_near.Goals as goal

pub returns-then-not-seek_near-clause-peer : goal.returns-then-not-seek_near-clause-peer
returns-then-not-seek_near-clause-peer g c =
    ap peer_before (missing prefix_cmp c.args.prefix.now (g.S.Table.entries c.args.selections.now) c.seek_near.new.near (c.if-not-seek_near.ensures.gap refl))

pub returns-clause-peer : goal.returns-clause-peer
returns-clause-peer g c =
    let ss = g.S.Table.entries c.args.selections.now in
    sym (ap peer_before (found_at c.args.prefix.now ss c.seek_near.new.near c.in_ok-selected.selected (g.met.S.Table.ordered c.args.selections.now) (c.if-not-seek_near.ensures.at refl) c.in_ok-selected.ensures))
