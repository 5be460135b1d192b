-- What the bound says of an entry holds of all on its side, since the keys rise.
use Rattle.std.proofs.Common.{◌≡◌, ◌-◌, suc, true, take, sym, subst, arith}
use Rattle.std.specs.List.{list_all}
use Rattle.babel_table.proofs.BoundLemmas.{below_through, above_from}
use Rattle.babel_table.proofs.near.places_below_back.Goals as goal

pub returns-then-is_below-clause-below : goal.returns-then-is_below-clause-below
returns-then-is_below-clause-below g c =
    let table = c.args.table.now in
    let bound = c.args.bound.now in
    let near = c.args.near in
    let after : suc (near - 1) ≡ near = omega (arith, c.if-near-eq0.false) in
    subst (λ n. list_all (λ e. g.B.Bound.is_below bound e.0) (take n (g.T.Table.entries table)) ≡ true) after
    (below_through g.K.Key.order (g.B.Bound.is_below bound) (g.met.B.Bound.falling bound) (g.T.Table.entries table) (near - 1) c.in-Some.entry (g.met.T.Table.ordered table) (sym c.in-Some.ensures) (sym c.if-is_below.ensures))

pub places_below_until-requires-clause-above : goal.places_below_until-requires-clause-above
places_below_until-requires-clause-above g c =
    let table = c.args.table.now in
    let bound = c.args.bound.now in
    above_from g.K.Key.order (g.B.Bound.is_below bound) (g.met.B.Bound.falling bound) (g.T.Table.entries table) (c.args.near - 1) c.in-Some.entry (g.met.T.Table.ordered table) (sym c.in-Some.ensures) (sym c.if-is_below.ensures)
