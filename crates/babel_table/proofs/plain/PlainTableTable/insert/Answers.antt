-- The table has room, so the value is stored.
use Rattle.std.proofs.Common.{arith}
use Rattle.babel_table.proofs.InsertionLemmas.{is_stored}
use Rattle.babel_table.proofs.plain.PlainTableTable.insert.Goals as goal

pub returns-clause-entries : goal.returns-clause-entries
returns-clause-entries g c =
    is_stored c.put.result c.put.ensures.ok (λ err. let full = (c.put.ensures.full.0 err).1 in omega (arith, full, c.requires.room))
