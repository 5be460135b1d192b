-- Before the least moment nothing is due, and a collection that leaves as many sources as there were changes nothing.
use Rattle.std.proofs.Common.{◌≡◌, ◌∙◌, IsFalse, nat_lt, length, sym, subst}
use Rattle.babel_sources.specs.Sources.{collected}
use Rattle.babel_sources.proofs.CollectionLemmas.{none_collected}
use Rattle.babel_sources.proofs.DueLemmas.{quiet_collection}
use Rattle.babel_sources.proofs.sources.SourcesOver.collect.Goals as goal

pub returns-then-now-self-clause-sources : goal.returns-then-now-self-clause-sources
returns-then-now-self-clause-sources g c =
    let inside = c.self.inside in
    subst (λ es. es ≡ collected c.args.now es) c.self.view_is
    (sym (quiet_collection c.args.now inside.due (g.T.Table.entries inside.table) c.if-now-self.true c.self.invariant.1))

pub returns-clause-quiet : goal.returns-clause-quiet
returns-clause-quiet g c few =
    let old = g.T.Table.entries c.self.inside.table in
    let new = g.T.Table.entries c.revise_dues-self-inside.new.table in
    let count : IsFalse (nat_lt (length new) (length old)) =
    subst (λ n. IsFalse (nat_lt n (length old))) c.len.ensures.len (subst (λ n. IsFalse (nat_lt c.len.result n)) c.len-count.ensures.len few) in
    none_collected c.args.now old new c.revise_dues-self-inside.ensures.entries count ∙ c.self.view_is
