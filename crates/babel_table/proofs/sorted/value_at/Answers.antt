-- What is at the index is the key's value; in a gap there is none.
use Rattle.std.proofs.Common.{Some, sym, ap, subst, ◌∙◌, IfOk, IfErr}
use Rattle.std.proofs.lemmas.Option.{same_Some}
use Rattle.babel_table.specs.Places.{IsAt, IsGap}
use Rattle.babel_table.proofs.PlaceLemmas.{find_hit, find_gap}
use Rattle.babel_table.proofs.sorted.value_at.Goals as goal

pub returns-in-Ok : goal.returns-in-Ok
returns-in-Ok g c =
    let table = c.args.table.now in
    let key = c.args.key.now in
    let items = g.Q.Sequence.items table.entries in
    let found = subst (λ r. IfOk r (IsAt key items)) c.in-Ok.is c.requires.found in
    ap (λ e. Some e.1) (same_Some _ _ (sym c.item.ensures ∙ found.1))
    ∙ sym (find_hit g.K.Key.order g.met.K.Key.total items c.in-Ok.place (key, found.0) table.sorted found.1)

pub returns-in-Err : goal.returns-in-Err
returns-in-Err g c =
    let key = c.args.key.now in
    let items = g.Q.Sequence.items c.args.table.now.entries in
    let gap = subst (λ r. IfErr r (IsGap g.K.Key.order key items)) c.in-Err.is c.requires.missing in
    sym (find_gap g.K.Key.order key items c.in-Err.field-0 gap.lesser gap.greater)
