-- The new entry is due no earlier than the least moment.
use Rattle.std.proofs.Common.{◌∙◌, arith}
use Rattle.std.specs.Option.{option_map}
use Rattle.std.specs.FinMap.{find}
use Rattle.babel_value.specs.Orders.{source_cmp}
use Rattle.babel_sources.specs.declared.sources.SourceEntry.{SourceEntry}
use Rattle.babel_sources.specs.Distances.{better_pair}
use Rattle.babel_sources.proofs.DueLemmas.{change_due}
use Rattle.babel_sources.proofs.sources.SourcesOver.fetch_lower_near.Goals as goal

pub invariant_of-self : goal.invariant_of-self
invariant_of-self g c =
    let old = c.self.inside in
    let entry : SourceEntry = record { distance = better_pair (option_map (λ e. e.distance) (find source_cmp c.args.source (g.T.Table.entries old.table))) c.args.sent; due = c.saturating_add-due.result } in (
      c.change_near.ensures.room ∙ c.self.invariant.0,
      change_due c.change_near.result c.min-self-inside.result old.due c.args.source entry (g.T.Table.entries old.table) (g.T.Table.entries c.change_near.new.table) (omega (arith, c.min-self-inside.ensures)) (omega (arith, c.min-self-inside.ensures)) c.change_near.ensures.ok c.change_near.ensures.err c.self.invariant.1,
    )
