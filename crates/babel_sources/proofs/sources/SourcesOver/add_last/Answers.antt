-- A source that comes after all others is none of them. The new entry is due no earlier than the least moment.
use Rattle.std.proofs.Common.{◌≡◌, ℕ, true, length, None, sym, ap, ◌∙◌, arith}
use Rattle.std.specs.FinMap.{put}
use Rattle.std.specs.Option.{option_map}
use Rattle.std.proofs.lemmas.List.{take_all, drop_all}
use Rattle.babel_value.specs.declared.keys.Source.{Source}
use Rattle.babel_value.specs.Orders.{source_cmp}
use Rattle.babel_table.specs.Places.{are_lesser, are_greater}
use Rattle.babel_table.proofs.PlaceLemmas.{find_gap}
use Rattle.babel_sources.specs.declared.sources.SourceEntry.{SourceEntry}
use Rattle.babel_sources.specs.Sources.{Sources, pair_of, source_entry_after}
use Rattle.babel_sources.proofs.DueLemmas.{lower_due}
use Rattle.babel_sources.proofs.sources.SourcesOver.add_last.Goals as goal

no_pair : (source : Source) (es : Sources) → are_lesser source_cmp source es ≡ true → pair_of source es ≡ None
no_pair source es lesser =
    ap (option_map (λ (e : SourceEntry). e.distance)) (find_gap source_cmp source es (length es)
    (ap (are_lesser source_cmp source) (take_all (length es) es (omega arith)) ∙ lesser)
    (ap (are_greater source_cmp source) (drop_all (length es) es (omega arith))))

pub invariant_of-self : goal.invariant_of-self
invariant_of-self g c =
    let old = c.self.inside in
    let entry : SourceEntry = record { distance = c.args.sent; due = c.saturating_add-due.result } in (
      c.insert.ensures.room ∙ c.self.invariant.0,
      lower_due c.min-self-inside.result old.due c.args.source entry (g.T.Table.entries old.table) (g.T.Table.entries c.insert.new.self) (omega (arith, c.min-self-inside.ensures)) (omega (arith, c.min-self-inside.ensures)) c.insert.ensures.entries c.self.invariant.1,
    )

pub returns : goal.returns
returns g c =
    let source = c.args.source in
    let sent = c.args.sent in
    let new : SourceEntry = record { distance = sent; due = c.saturating_add-due.result } in
    let same : new ≡ source_entry_after c.args.now (pair_of source c.args.self.now) sent =
    ap (λ (moment : ℕ). record { distance = sent; due = moment }) c.saturating_add-due.ensures
    ∙ ap (λ pair. source_entry_after c.args.now pair sent) (sym (no_pair source c.args.self.now c.requires.last)) in
    c.insert.ensures.entries ∙ ap (put source_cmp source new) c.self.view_is ∙ ap (λ e. put source_cmp source e c.args.self.now) same
