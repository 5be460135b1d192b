-- The table has the key at the index, or it is missing.
use Rattle.std.proofs.Common.{Some, refl, sym, ap, ◌∙◌}
use Rattle.std.proofs.lemmas.Option.{same_Some}
use Rattle.babel_table.proofs.PlaceLemmas.{find_hit, missing}
use Rattle.babel_table.proofs.near.find_near.Goals as goal

pub returns-then-not-seek_near-clause-value : goal.returns-then-not-seek_near-clause-value
returns-then-not-seek_near-clause-value g c =
    missing g.K.Key.order c.args.key.now (g.T.Table.entries c.args.table.now) c.seek_near.new.near (c.if-not-seek_near.ensures.gap refl)

pub returns-clause-value : goal.returns-clause-value
returns-clause-value g c =
    let table = c.args.table.now in
    let es = g.T.Table.entries table in
    let at = c.if-not-seek_near.ensures.at refl in
    let here = same_Some c.in_ok-entry.entry (c.args.key.now, at.0) (c.in_ok-entry.ensures ∙ at.1) in
    ap (λ e. Some e.1) here ∙ sym (find_hit g.K.Key.order g.met.K.Key.total es c.seek_near.new.near (c.args.key.now, at.0) (g.met.T.Table.ordered table) at.1)
