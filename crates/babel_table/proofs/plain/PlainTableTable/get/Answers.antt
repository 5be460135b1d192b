-- In the order of their keys the entries have the same value at the key, and are as many.
use Rattle.std.proofs.Common.{Some, sym, ap, ◌∙◌, arith}
use Rattle.std.proofs.lemmas.Option.{get_or_from_slice_get}
use Rattle.babel_table.proofs.InsertionLemmas.{find_at, find_in_order, length_in_order}
use Rattle.babel_table.proofs.plain.PlainTableTable.get.Goals as goal

pub returns-in-Some-clause-value : goal.returns-in-Some-clause-value
returns-in-Some-clause-value g c =
    let table = c.args.self.now in
    let es = table.entries.items in
    let key = (g.S.Sought.key c.args.key.now) in
    let found = c.in-Some.ensures.found in
    ap (λ e. Some e.1) (c.index.ensures ∙ get_or_from_slice_get es c.in-Some.place (key, found.0) _ found.1)
    ∙ sym (find_in_order g.K.Key.order g.met.K.Key.total key es ∙ find_at g.K.Key.order g.met.K.Key.total es c.in-Some.place (key, found.0) table.distinct found.1)

pub returns-in-Some-clause-cost : goal.returns-in-Some-clause-cost
returns-in-Some-clause-cost g c =
    let table = c.args.self.now in
    omega (arith, c.in-Some.ensures.cost, length_in_order g.K.Key.order g.met.K.Key.total table.entries.items table.distinct)

pub returns-in-None-clause-value : goal.returns-in-None-clause-value
returns-in-None-clause-value g c =
    sym (find_in_order g.K.Key.order g.met.K.Key.total (g.S.Sought.key c.args.key.now) c.args.self.now.entries.items ∙ c.in-None.ensures.found)

pub returns-in-None-clause-cost : goal.returns-in-None-clause-cost
returns-in-None-clause-cost g c =
    let table = c.args.self.now in
    omega (arith, c.in-None.ensures.cost, length_in_order g.K.Key.order g.met.K.Key.total table.entries.items table.distinct)
