-- The entry with as many lesser keys stands at the place in the order of the keys.
use Rattle.std.proofs.Common.{◌≡◌, ◌<◌, length, slice_get, Some, refl, sym, ap, ◌∙◌, below_more, arith}
use Rattle.std.proofs.lemmas.Option.{slice_get_read, slice_get_within, same_Some}
use Rattle.babel_table.specs.Entries.{lesser_keys}
use Rattle.babel_table.proofs.InsertionLemmas.{at_place, no_place}
use Rattle.babel_table.proofs.plain.PlainTableTable.at.Goals as goal

pub returns-then-lesser_than-place : goal.returns-then-lesser_than-place
returns-then-lesser_than-place g c =
    let table = c.args.self.now in
    let es = table.entries.items in
    let e = c.index.result.now in
    let within : c.loop-index.index < length es = omega (arith, c.len-index-end.ensures, table.entries.ok.0) in
    let at = slice_get_read es (length es) c.loop-index.index e refl within c.index.ensures in
    sym (at_place g.K.Key.order g.met.K.Key.total g.met.K.Key.exact es c.loop-index.index e c.args.place table.distinct at (sym c.lesser_than.ensures ∙ c.if-lesser_than-place.true))

pub loop-index-preserved : goal.loop-index-preserved
loop-index-preserved g c =
    let table = c.args.self.now in
    let es = table.entries.items in
    let entry = c.index.result.now in
    let within : c.loop-index.index < length es = omega (arith, c.len-index-end.ensures, table.entries.ok.0) in
    let here = slice_get_read es (length es) c.loop-index.index entry refl within c.index.ensures in
    below_more (λ i. (e : g.row.K.Denot × g.row.V.Denot) → slice_get es i ≡ Some e → lesser_keys g.K.Key.order e.0 es ≡ c.args.place → ⊥) c.loop-index.index c.loop-index.invariant
    (λ e at count. c.if-lesser_than-place.false (c.lesser_than.ensures ∙ ap (λ (f : g.row.K.Denot × g.row.V.Denot). lesser_keys g.K.Key.order f.0 es) (same_Some entry e (sym here ∙ at)) ∙ count))

pub returns : goal.returns
returns g c =
    let table = c.args.self.now in
    let es = table.entries.items in
    sym (no_place g.K.Key.order g.met.K.Key.total g.met.K.Key.exact es c.args.place table.distinct (λ i e at. c.loop-index.invariant i (omega (arith, slice_get_within es i e at, c.len-index-end.ensures, table.entries.ok.0)) e at))
