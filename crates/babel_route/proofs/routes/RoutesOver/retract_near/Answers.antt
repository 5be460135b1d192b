-- An entry that is retracted has a place already.
use Rattle.std.proofs.Common.{◌∙◌, arith, sym, subst, IsNone, true≢false}
use Rattle.babel_route.proofs.RoomLemmas.{put_within}
use Rattle.babel_route.proofs.DueLemmas.{put_due}
use Rattle.babel_route.proofs.routes.RoutesOver.retract_near.Goals as goal

pub invariant_of-self : goal.invariant_of-self
invariant_of-self g c =
    let old = c.self.inside in
    let kept = c.self.invariant in
    let quiet = put_due c.min-self-inside.result old.due c.args.key.now c.retracted-retracted.result (g.E.Table.entries old.entries) (g.E.Table.entries c.replace.new.self) (omega (arith, c.min-self-inside.ensures)) (omega (arith, c.min-self-inside.ensures)) c.replace.ensures.entries kept.3 in
    (c.replace.ensures.room ∙ kept.0, kept.1, put_within old.taken c.args.key.now c.retracted-retracted.result (g.E.Table.entries old.entries) (g.E.Table.entries c.replace.new.self) (g.S.Table.entries old.selections) (g.met.E.Table.ordered old.entries) c.replace.ensures.entries (λ none. absurd (true≢false (subst IsNone (sym c.in-Some.ensures.value) none))) kept.2, quiet, kept.4)
