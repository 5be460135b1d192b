-- A known key is written over in its place, a new one goes to the end.
use Rattle.std.proofs.Common.{◌≡◌, true, IsNone, refl, sym, ap, subst, ◌∙◌, arith}
use Rattle.babel_table.specs.Insertions.{in_order, are_distinct}
use Rattle.babel_table.proofs.InsertionLemmas.{find_at, find_in_order, length_in_order, distinct_set, distinct_push, in_order_set, in_order_push}
use Rattle.babel_table.proofs.plain.PlainTableTable.put.Goals as goal

pub invariant_of-self-clause-distinct : goal.invariant_of-self-clause-distinct
invariant_of-self-clause-distinct g c =
    let table = c.args.self.now in
    let found = c.in-Some.ensures in
    distinct_set g.K.Key.order g.met.K.Key.total table.entries.items c.in-Some.place c.args.key found.0 c.args.value table.distinct found.1

pub returns-in-Some-clause-ok : goal.returns-in-Some-clause-ok
returns-in-Some-clause-ok g c =
    let table = c.args.self.now in
    let found = c.in-Some.ensures in
    in_order_set g.K.Key.order g.met.K.Key.total g.met.K.Key.exact table.entries.items c.in-Some.place c.args.key found.0 c.args.value table.distinct found.1

pub returns-in-Some-clause-full : goal.returns-in-Some-clause-full
returns-in-Some-clause-full g c =
    let table = c.args.self.now in
    let es = table.entries.items in
    let found = c.in-Some.ensures in
    let source_entry = find_in_order g.K.Key.order g.met.K.Key.total c.args.key es ∙ find_at g.K.Key.order g.met.K.Key.total es c.in-Some.place (c.args.key, found.0) table.distinct found.1 in
    (λ never. cc, λ full. sym (subst IsNone source_entry full.0))

pub returns-then-len-self-clause-full : goal.returns-then-len-self-clause-full
returns-then-len-self-clause-full g c =
    let table = c.args.self.now in
    let es = table.entries.items in
    let none = find_in_order g.K.Key.order g.met.K.Key.total c.args.key es ∙ c.in-None.ensures in
    (λ _. (subst IsNone (sym none) refl, omega (arith, table.entries.ok.0, length_in_order g.K.Key.order g.met.K.Key.total es table.distinct)), λ _. refl)

pub invariant_of-self-in-None-clause-distinct : goal.invariant_of-self-in-None-clause-distinct
invariant_of-self-in-None-clause-distinct g c =
    let table = c.args.self.now in
    subst (λ es. are_distinct g.K.Key.order es ≡ true) (sym c.push_reserved.ensures.items)
    (distinct_push g.K.Key.order g.met.K.Key.total table.entries.items c.args.key c.args.value table.distinct c.in-None.ensures)

pub returns-else-len-self-clause-full : goal.returns-else-len-self-clause-full
returns-else-len-self-clause-full g c =
    let table = c.args.self.now in
    (λ never. cc, λ full. absurd (omega (arith, full.1, table.entries.ok.0, length_in_order g.K.Key.order g.met.K.Key.total table.entries.items table.distinct)))

pub returns-else-len-self-clause-ok : goal.returns-else-len-self-clause-ok
returns-else-len-self-clause-ok g c =
    ap (in_order g.K.Key.order) c.push_reserved.ensures.items
    ∙ in_order_push g.K.Key.order g.met.K.Key.total g.met.K.Key.exact c.args.self.now.entries.items c.args.key c.args.value c.in-None.ensures
