-- The prefix is at that index.
use Rattle.std.proofs.Common.{◌≡◌, sym, ap, ◌∙◌, subst}
use Rattle.std.specs.Option.{option_map}
use Rattle.std.specs.Ordering.{is_eq}
use Rattle.std.specs.Map.Iter.{deref_pair}
use Rattle.babel_replay.specs.Seen.{SeenTable, with_seen}
use Rattle.babel_replay.proofs.Seeing.{kept_at}
use Rattle.babel_replay.proofs.seen.SeenPrefixes.is_at.Goals as goal

pub returns-in-Some : goal.returns-in-Some
returns-in-Some c same =
    subst (λ (t : SeenTable). with_seen c.args.prefix.now t.entries ≡ t.entries) c.self.view_is
    (kept_at c.args.prefix.now c.self.inside.table.entries c.args.index _ (sym c.get_index.ensures.entry ∙ ap (option_map deref_pair) c.in-Some.is)
    (ap is_eq (sym c.cmp.ensures) ∙ sym c.is_eq.ensures ∙ same))
