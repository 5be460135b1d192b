-- The key is at the index, so writing there is storing at the key.
use Rattle.std.proofs.Common.{◌≡◌, true, sym, subst, ◌∙◌}
use Rattle.std.proofs.lemmas.Option.{slice_get_within}
use Rattle.std.specs.FinMap.{is_sorted}
use Rattle.babel_table.proofs.PlaceLemmas.{put_hit, sorted_put}
use Rattle.babel_table.proofs.sorted.SortedTableTable.replace.Goals as goal

pub invariant_of-self-clause-sorted : goal.invariant_of-self-clause-sorted
invariant_of-self-clause-sorted g c =
    let table = c.args.self.now in
    let at = c.requires.at in
    subst (λ es. is_sorted g.K.Key.order es ≡ true)
    (put_hit g.K.Key.order g.met.K.Key.total c.args.value (g.Q.Sequence.items table.entries) c.args.place (c.args.key, at.0) table.sorted at.1 ∙ sym c.set.ensures.items)
    (sorted_put g.K.Key.order g.met.K.Key.total c.args.key c.args.value (g.Q.Sequence.items table.entries) table.sorted)

pub returns-clause-entries : goal.returns-clause-entries
returns-clause-entries g c =
    let table = c.args.self.now in
    let at = c.requires.at in
    c.set.ensures.items ∙ sym (put_hit g.K.Key.order g.met.K.Key.total c.args.value (g.Q.Sequence.items table.entries) c.args.place (c.args.key, at.0) table.sorted at.1)

pub set-requires : goal.set-requires
set-requires g c =
    let at = c.requires.at in
    slice_get_within (g.Q.Sequence.items c.args.self.now.entries) c.args.place (c.args.key, at.0) at.1
