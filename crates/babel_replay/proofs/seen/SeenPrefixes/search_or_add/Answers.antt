use Rattle.std.proofs.Common.{◌<◌, not, true≢false, sym, ap, subst, ◌∙◌, Result, Ok, Err, IsOk, OnOk}
use Rattle.babel_replay.specs.Seen.{SeenTable, with_seen}
use Rattle.babel_replay.proofs.Comparing.{same_prefix}
use Rattle.babel_replay.proofs.Seeing.{inserted, kept}
use Rattle.babel_replay.proofs.seen.SeenPrefixes.search_or_add.Goals as goal

on_ok : {A E : Type 0} (r : Result A E) (P : Type 0) → OnOk r P → IsOk r → P
on_ok (Ok a) P p is = p
on_ok (Err e) P p is = absurd (true≢false (sym is))

pub returns-then-is_none-clause-seen : goal.returns-then-is_none-clause-seen
returns-then-is_none-clause-seen c =
    on_ok c.insert.result _ c.insert.ensures.entries (c.insert.ensures.succeeds (subst (λ (t : SeenTable). 0 < t.room) (sym c.self.view_is) c.requires))
    ∙ inserted _ same_prefix c.args.prefix c.self.inside.table.entries (sym c.get_index_of-found.ensures.found ∙ c.is_none.ensures ∙ ap not c.if-is_none.true)
    ∙ ap (λ (t : SeenTable). with_seen c.args.prefix t.entries) c.self.view_is

pub returns-else-is_none-clause-seen : goal.returns-else-is_none-clause-seen
returns-else-is_none-clause-seen c =
    kept _ same_prefix c.args.prefix c.self.inside.table.entries (sym c.get_index_of-found.ensures.found ∙ c.is_none.ensures ∙ ap not c.if-is_none.false)
    ∙ ap (λ (t : SeenTable). with_seen c.args.prefix t.entries) c.self.view_is
