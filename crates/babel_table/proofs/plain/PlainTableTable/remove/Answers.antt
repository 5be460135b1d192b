-- A key that is found goes from its place; one that is missing leaves all as it is.
use Rattle.std.proofs.Common.{◌≡◌, true, sym, ap, subst, ◌∙◌}
use Rattle.babel_table.specs.Insertions.{in_order, are_distinct}
use Rattle.babel_table.proofs.InsertionLemmas.{without_at, without_none, distinct_without, in_order_without}
use Rattle.babel_table.proofs.plain.PlainTableTable.remove.Goals as goal

pub invariant_of-self-clause-distinct : goal.invariant_of-self-clause-distinct
invariant_of-self-clause-distinct g c =
    let table = c.args.self.now in
    let found = c.in-Some.ensures in
    subst (λ es. are_distinct g.K.Key.order es ≡ true)
    (without_at g.K.Key.order g.met.K.Key.total table.entries.items c.in-Some.place c.args.key.now found.0 table.distinct found.1 ∙ sym c.remove.ensures.items)
    (distinct_without g.K.Key.order g.met.K.Key.total c.args.key.now table.entries.items table.distinct)

pub returns-in-Some-clause-entries : goal.returns-in-Some-clause-entries
returns-in-Some-clause-entries g c =
    let table = c.args.self.now in
    let es = table.entries.items in
    let found = c.in-Some.ensures in
    ap (in_order g.K.Key.order) (c.remove.ensures.items ∙ sym (without_at g.K.Key.order g.met.K.Key.total es c.in-Some.place c.args.key.now found.0 table.distinct found.1))
    ∙ in_order_without g.K.Key.order g.met.K.Key.total g.met.K.Key.exact c.args.key.now es

pub returns-in_default-clause-entries : goal.returns-in_default-clause-entries
returns-in_default-clause-entries g c =
    let es = c.args.self.now.entries.items in
    ap (in_order g.K.Key.order) (sym (without_none g.K.Key.order g.met.K.Key.total c.args.key.now es c.in_default.ensures))
    ∙ in_order_without g.K.Key.order g.met.K.Key.total g.met.K.Key.exact c.args.key.now es
