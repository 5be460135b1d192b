-- A revision keeps the keys distinct, and doesn't depend on the order of the entries.
use Rattle.std.proofs.Common.{◌≡◌, true, sym, ap, subst, ◌∙◌}
use Rattle.babel_table.specs.Insertions.{in_order, are_distinct}
use Rattle.babel_table.proofs.DueLemmas.{due_in_order, last_in_order}
use Rattle.babel_table.proofs.RevisionLemmas.{distinct_revised, in_order_revised}
use Rattle.babel_table.proofs.plain.PlainTableTable.revise_dated.Goals as goal

pub invariant_of-self-clause-distinct : goal.invariant_of-self-clause-distinct
invariant_of-self-clause-distinct g c =
    let table = c.args.self.now in
    subst (λ es. are_distinct g.K.Key.order es ≡ true) (sym c.compact.ensures.items)
    (distinct_revised g.K.Key.order (g.R.Revision.revised c.args.revision.now) table.entries.items table.distinct)

pub returns-clause-entries : goal.returns-clause-entries
returns-clause-entries g c =
    let table = c.args.self.now in
    ap (in_order g.K.Key.order) c.compact.ensures.items
    ∙ in_order_revised g.K.Key.order (g.R.Revision.revised c.args.revision.now) g.met.K.Key.total g.met.K.Key.exact table.entries.items table.distinct

pub returns-clause-due : goal.returns-clause-due
returns-clause-due g c =
    due_in_order g.M.Moments.moment_of g.K.Key.order c.compact.result c.compact.new.entries.items c.compact.ensures.due

pub returns-clause-last : goal.returns-clause-last
returns-clause-last g c =
    last_in_order g.M.Moments.moment_of g.K.Key.order g.met.K.Key.total c.compact.result c.compact.new.entries.items (subst (λ es. are_distinct g.K.Key.order es ≡ true) (sym c.compact.ensures.items)
    (distinct_revised g.K.Key.order (g.R.Revision.revised c.args.revision.now) c.args.self.now.entries.items c.args.self.now.distinct)) c.compact.ensures.last
