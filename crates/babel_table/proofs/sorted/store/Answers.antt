-- A known key is written over at its index, a new one goes where the search ended.
use Rattle.std.proofs.Common.{◌≡◌, true, IsNone, IfOk, IfErr, refl, sym, subst, ◌∙◌, arith}
use Rattle.std.specs.FinMap.{is_sorted}
use Rattle.babel_table.specs.Places.{IsAt, IsGap}
use Rattle.babel_table.proofs.PlaceLemmas.{find_hit, find_gap, put_hit, put_gap, sorted_put}
use Rattle.babel_table.proofs.sorted.store.Goals as goal

pub invariant_of-table-clause-sorted : goal.invariant_of-table-clause-sorted
invariant_of-table-clause-sorted g c =
    let table = c.args.table.now in
    let found = subst (λ r. IfOk r (IsAt c.args.key (g.Q.Sequence.items table.entries))) c.in-Ok.is c.requires.found in
    subst (λ es. is_sorted g.K.Key.order es ≡ true)
    (put_hit g.K.Key.order g.met.K.Key.total c.args.value (g.Q.Sequence.items table.entries) c.in-Ok.place (c.args.key, found.0) table.sorted found.1 ∙ sym c.set.ensures.items)
    (sorted_put g.K.Key.order g.met.K.Key.total c.args.key c.args.value (g.Q.Sequence.items table.entries) table.sorted)

pub returns-in-Ok-clause-ok : goal.returns-in-Ok-clause-ok
returns-in-Ok-clause-ok g c =
    let table = c.args.table.now in
    let found = subst (λ r. IfOk r (IsAt c.args.key (g.Q.Sequence.items table.entries))) c.in-Ok.is c.requires.found in
    c.set.ensures.items ∙ sym (put_hit g.K.Key.order g.met.K.Key.total c.args.value (g.Q.Sequence.items table.entries) c.in-Ok.place (c.args.key, found.0) table.sorted found.1)

pub returns-in-Ok-clause-full : goal.returns-in-Ok-clause-full
returns-in-Ok-clause-full g c =
    let table = c.args.table.now in
    let found = subst (λ r. IfOk r (IsAt c.args.key (g.Q.Sequence.items table.entries))) c.in-Ok.is c.requires.found in
    let hit = find_hit g.K.Key.order g.met.K.Key.total (g.Q.Sequence.items table.entries) c.in-Ok.place (c.args.key, found.0) table.sorted found.1 in
    (λ never. cc, λ full. sym (subst IsNone hit full.0))

pub returns-then-len-table-clause-full : goal.returns-then-len-table-clause-full
returns-then-len-table-clause-full g c =
    let table = c.args.table.now in
    let gap = subst (λ r. IfErr r (IsGap g.K.Key.order c.args.key (g.Q.Sequence.items table.entries))) c.in-Err.is c.requires.missing in
    let none = find_gap g.K.Key.order c.args.key (g.Q.Sequence.items table.entries) c.in-Err.place gap.lesser gap.greater in
    (λ _. (subst IsNone (sym none) refl, omega arith), λ _. refl)

pub invariant_of-table-in-Err-clause-sorted : goal.invariant_of-table-in-Err-clause-sorted
invariant_of-table-in-Err-clause-sorted g c =
    let table = c.args.table.now in
    let gap = subst (λ r. IfErr r (IsGap g.K.Key.order c.args.key (g.Q.Sequence.items table.entries))) c.in-Err.is c.requires.missing in
    subst (λ es. is_sorted g.K.Key.order es ≡ true)
    (put_gap g.K.Key.order c.args.key c.args.value (g.Q.Sequence.items table.entries) c.in-Err.place gap.lesser gap.greater ∙ sym c.insert.ensures.items)
    (sorted_put g.K.Key.order g.met.K.Key.total c.args.key c.args.value (g.Q.Sequence.items table.entries) table.sorted)

pub returns-else-len-table-clause-ok : goal.returns-else-len-table-clause-ok
returns-else-len-table-clause-ok g c =
    let table = c.args.table.now in
    let gap = subst (λ r. IfErr r (IsGap g.K.Key.order c.args.key (g.Q.Sequence.items table.entries))) c.in-Err.is c.requires.missing in
    c.insert.ensures.items ∙ sym (put_gap g.K.Key.order c.args.key c.args.value (g.Q.Sequence.items table.entries) c.in-Err.place gap.lesser gap.greater)
