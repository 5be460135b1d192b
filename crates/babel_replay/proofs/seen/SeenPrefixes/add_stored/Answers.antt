use Rattle.std.proofs.Common.{◌≤◌, List, arith, length, zip, sym, ap, subst, ◌∙◌}
use Rattle.std.proofs.lemmas.Bool.{ltb-false}
use Rattle.babel_replay.specs.Seen.{SeenPrefix, seen_after}
use Rattle.babel_replay.proofs.Unchanged.{seen_same}
use Rattle.babel_replay.proofs.Zips.{zip_over}
use Rattle.babel_replay.proofs.seen.SeenPrefixes.add_stored.Goals as goal

pub returns-clause-entries : goal.returns-clause-entries
returns-clause-entries c =
    ap (λ xs. seen_after xs c.loop-place.self.entries) (sym (zip_over c.loop-place.place-iterator c.next.new.self c.next.result c.in-None.is c.next.ensures.steps))
    ∙ c.loop-place.invariant.1

pub returns-clause-same : goal.returns-clause-same
returns-clause-same c few =
    let es = c.args.self.now.entries in
    let all = returns-clause-entries c in
    all ∙ seen_same (zip c.args.placed.now c.args.notes.now) es (subst (λ (later : List SeenPrefix). length later ≤ length es) all (omega (arith, ltb-false _ _ few, c.len-count.ensures, c.len.ensures)))
