-- In the order of their keys the entries have the same value at the key.
use Rattle.std.proofs.Common.{Some, sym, ap, ◌∙◌}
use Rattle.std.proofs.lemmas.Option.{get_or_from_slice_get}
use Rattle.babel_table.proofs.InsertionLemmas.{find_at, find_in_order}
use Rattle.babel_table.proofs.plain.value_of.Goals as goal

pub returns-in-Some : goal.returns-in-Some
returns-in-Some g c =
    let table = c.args.table.now in
    let es = table.entries.items in
    let key = c.args.key.now in
    let found = c.in-Some.ensures in
    ap (λ e. Some e.1) (c.index.ensures ∙ get_or_from_slice_get es c.in-Some.place (key, found.0) _ found.1)
    ∙ sym (find_in_order g.K.Key.order g.met.K.Key.total key es ∙ find_at g.K.Key.order g.met.K.Key.total es c.in-Some.place (key, found.0) table.distinct found.1)

pub returns-in-None : goal.returns-in-None
returns-in-None g c =
    sym (find_in_order g.K.Key.order g.met.K.Key.total c.args.key.now c.args.table.now.entries.items ∙ c.in-None.ensures)
