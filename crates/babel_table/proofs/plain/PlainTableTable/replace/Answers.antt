-- The table has the key, so it isn't full of others.
use Rattle.std.proofs.Common.{IsNone, subst, true≢false}
use Rattle.babel_table.specs.Insertions.{in_order, sorted_in_order}
use Rattle.babel_table.proofs.InsertionLemmas.{is_stored}
use Rattle.babel_table.proofs.PlaceLemmas.{find_hit}
use Rattle.babel_table.proofs.plain.PlainTableTable.replace.Goals as goal

pub returns-clause-entries : goal.returns-clause-entries
returns-clause-entries g c =
    let table = c.args.self.now in
    let es = in_order g.K.Key.order table.entries.items in
    let at = c.requires.at in
    let hit = find_hit g.K.Key.order g.met.K.Key.total es c.args._place (c.args.key, at.0) (sorted_in_order g.K.Key.order g.met.K.Key.total table.entries.items) at.1 in
    is_stored c.put.result c.put.ensures.ok (λ err. absurd (true≢false (subst IsNone hit (c.put.ensures.full.0 err).0)))
