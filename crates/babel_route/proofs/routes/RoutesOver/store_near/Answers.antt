-- The entry of a known key has its place already.
use Rattle.std.proofs.Common.{◌∙◌, arith, ap, is_some, true≢false}
use Rattle.babel_route.proofs.RoomLemmas.{put_within}
use Rattle.babel_route.proofs.DueLemmas.{put_due}
use Rattle.babel_route.proofs.routes.RoutesOver.store_near.Goals as goal

pub invariant_of-self : goal.invariant_of-self
invariant_of-self g c =
    let old = c.self.inside in
    let kept = c.self.invariant in
    let entry = c.entry_of-entry.result in
    let key = c.key_of-key.result in
    let es = g.E.Table.entries old.entries in
    let new_es = g.E.Table.entries c.replace.new.self in
    let within = put_within old.taken key entry es new_es (g.S.Table.entries old.selections) (g.met.E.Table.ordered old.entries) c.replace.ensures.entries (λ none. absurd (true≢false (ap is_some c.in-Some.ensures.value ∙ none))) kept.2 in
    let quiet = put_due c.min-self-inside.result old.due key entry es new_es (omega (arith, c.min-self-inside.ensures)) (omega (arith, c.min-self-inside.ensures)) c.replace.ensures.entries kept.3 in
    (c.replace.ensures.room ∙ kept.0, kept.1, within, quiet, kept.4)
