-- The requests that are left are due no earlier.
use Rattle.std.proofs.Common.{◌≤◌, ◌∙◌, sym, subst, not}
use Rattle.std.specs.Ordering.{eq_by_cmp}
use Rattle.std.proofs.lemmas.List.Elements.{All-filter}
use Rattle.babel_value.specs.Orders.{source_cmp}
use Rattle.babel_table.specs.Dues.{AreDueFrom}
use Rattle.babel_speaker.proofs.tables.requests.RequestTable.remove.Goals as goal

pub invariant_of-self : goal.invariant_of-self
invariant_of-self c =
    let old = c.self.inside in (
      c.remove.ensures.room ∙ c.self.invariant.0,
      subst (AreDueFrom (λ request. request.due) old.due) (sym c.remove.ensures.entries)
          (All-filter (λ e. not (eq_by_cmp source_cmp c.args.source.now e.0)) (λ e. old.due ≤ e.1.due) old.table.entries.items c.self.invariant.1),
    )
