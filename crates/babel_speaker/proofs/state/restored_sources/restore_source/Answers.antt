-- One more source is restored.
use Rattle.std.proofs.Common.{sym, ap, ◌∙◌}
use Rattle.babel_value.specs.Orders.{source_cmp}
use Rattle.babel_table.specs.Places.{are_lesser}
use Rattle.babel_sources.specs.Sources.{lowered}
use Rattle.babel_speaker.proofs.RestoredSources.{lesser_sources, next_source, none_within}
use Rattle.babel_speaker.proofs.state.restored_sources.restore_source.Goals as goal

pub add_last-requires-clause-last : goal.add_last-requires-clause-last
add_last-requires-clause-last c =
    ap (are_lesser source_cmp c.in-Some.entry.0) c.requires.before
    ∙ lesser_sources c.args.now c.args.saved.now.sources c.args.index c.in-Some.entry c.requires.snapshot.in_order (sym c.in-Some.ensures)

pub returns-in-Some : goal.returns-in-Some
returns-in-Some c =
    c.add_last.ensures ∙ ap (lowered c.args.now c.in-Some.entry.0 c.in-Some.entry.1) c.requires.before
    ∙ next_source c.args.now c.args.saved.now.sources c.args.index c.in-Some.entry c.requires.snapshot.in_order (sym c.in-Some.ensures)

pub returns-in-None : goal.returns-in-None
returns-in-None c = absurd (none_within c.args.saved.now.sources c.args.index c.requires.within (sym c.in-None.ensures))
