-- A key that is greater than the last one is greater than all.
use Rattle.std.proofs.Common.{◌≡◌, ◌-◌, suc, true, take, sym, subst, arith}
use Rattle.babel_table.specs.Places.{are_lesser}
use Rattle.babel_table.proofs.PlaceLemmas.{gap_at_end, lesser_through}
use Rattle.babel_table.proofs.near.seek_past_all.Goals as goal

pub returns-in-Greater-clause-gap : goal.returns-in-Greater-clause-gap
returns-in-Greater-clause-gap g c =
    let table = c.args.table.now in
    let es = g.T.Table.entries table in
    let key = c.args.key.now in
    let len = c.args.near.now in
    let after : suc (len - 1) ≡ len = omega (arith, c.requires.entries) in
    let lesser = lesser_through g.K.Key.order g.met.K.Key.total key es (len - 1) c.in-Some.last (g.met.T.Table.ordered table) (sym c.in-Some.ensures) (sym c.in-Greater.ensures) in
    λ _. gap_at_end g.K.Key.order key es len (subst (λ n. are_lesser g.K.Key.order key (take n es) ≡ true) after lesser) (sym c.requires.end)
