use Rattle.std.proofs.Common.{sym, refl, ◌∙◌}
use Rattle.babel_speaker.proofs.Drafts.{filling_goes, filling_stops, filling_ends}
use Rattle.babel_speaker.proofs.SettledSends.{removed_current}
use Rattle.babel_speaker.proofs.Snapshots.{removed_snapshot}
use Rattle.babel_speaker.proofs.output.datagrams.fill.Goals as goal

pub returns-then-not-add_item : goal.returns-then-not-add_item
returns-then-not-add_item c = record {
  current = c.add_item.ensures.current;
  marked = λ same. c.loop-item.invariant.marked (c.add_item.ensures.marked same);
  saved = λ same. c.add_item.ensures.saved same ∙ c.loop-item.invariant.saved (c.add_item.ensures.marked same);
  filled = λ b ms has.
      filling_stops c.args.departure.now b ms c.args.departure.target _ c.args.builder.now c.loop-item.core c.add_item.new.core c.loop-item.builder c.add_item.new.builder c.in-Some.item
      (c.loop-item.invariant.filling b ms has) (sym c.in-Some.ensures) (c.if-not-add_item.ensures.draft b) c.if-not-add_item.ensures.stays.0 c.if-not-add_item.ensures.stays.1;
}

pub loop-item-preserved : goal.loop-item-preserved
loop-item-preserved c = record {
  current = λ settled. removed_current c.add_item.new.core _ c.remove_first_item.ensures (c.add_item.ensures.current settled);
  marked = λ same. c.loop-item.invariant.marked (c.add_item.ensures.marked same);
  saved = λ same.
      removed_snapshot c.add_item.new.core _ c.args.core.now c.remove_first_item.ensures
      (c.add_item.ensures.saved same ∙ c.loop-item.invariant.saved (c.add_item.ensures.marked same));
  filling = λ b ms has.
      rw c.remove_first_item.ensures (filling_goes c.args.departure.now b ms c.args.departure.target _ c.args.builder.now c.loop-item.core c.add_item.new.core c.loop-item.builder c.add_item.new.builder c.in-Some.item
      (c.loop-item.invariant.filling b ms has) (sym c.in-Some.ensures) c.add_item.ensures.pending (c.if-not-add_item.ensures.draft b)
      (λ ms same. c.if-not-add_item.ensures.built b ms same refl) (λ ms whole encodable. c.if-not-add_item.ensures.encoded ms whole refl encodable));
}

pub returns : goal.returns
returns c = record {
  current = c.loop-item.invariant.current;
  marked = c.loop-item.invariant.marked;
  saved = c.loop-item.invariant.saved;
  filled = λ b ms has. filling_ends c.args.departure.now b ms c.args.departure.target _ c.args.builder.now c.loop-item.core c.loop-item.builder (c.loop-item.invariant.filling b ms has) (sym c.in_default.ensures);
}
