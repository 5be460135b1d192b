-- In the order of their keys the entries are as many.
use Rattle.std.proofs.Common.{sym, ◌∙◌}
use Rattle.babel_table.proofs.InsertionLemmas.{length_in_order}
use Rattle.babel_table.proofs.plain.PlainTableTable.len.Goals as goal

pub returns-clause-len : goal.returns-clause-len
returns-clause-len g c =
    let table = c.args.self.now in
    c.len.ensures ∙ table.entries.ok.0 ∙ sym (length_in_order g.K.Key.order g.met.K.Key.total table.entries.items table.distinct)
