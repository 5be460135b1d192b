-- A new key takes a place, and one is free.
use Rattle.std.proofs.Common.{◌+◌, ◌∙◌, arith}
use Rattle.babel_route.proofs.RoomLemmas.{put_within}
use Rattle.babel_route.proofs.DueLemmas.{put_due}
use Rattle.babel_route.proofs.routes.RoutesOver.insert_near.Goals as goal

pub invariant_of-self : goal.invariant_of-self
invariant_of-self g c =
    let old = c.self.inside in
    let kept = c.self.invariant in
    let es = g.E.Table.entries old.entries in
    let new_es = g.E.Table.entries c.insert.new.self in
    let within = put_within (c.places_within-taken.result + 1) c.args.key c.args.entry es new_es (g.S.Table.entries old.selections) (g.met.E.Table.ordered old.entries) c.insert.ensures.entries (λ none. omega (arith, c.places_within-taken.ensures.within)) (omega (arith, c.places_within-taken.ensures.within)) in
    let quiet = put_due c.min-self-inside.result old.due c.args.key c.args.entry es new_es (omega (arith, c.min-self-inside.ensures)) (omega (arith, c.min-self-inside.ensures)) c.insert.ensures.entries kept.3 in
    (c.insert.ensures.room ∙ kept.0, kept.1, within, quiet, omega (arith, c.if-taken-ge-ROUTE_PLACES.false))
