-- One more record is written.
use Rattle.std.proofs.Common.{◌++◌, sym, ap, ◌∙◌}
use Rattle.babel_snapshot.specs.Octets.{record_octets}
use Rattle.babel_snapshot.proofs.Appending.{records_next, whole_next}
use Rattle.babel_snapshot.proofs.writing.write_records.Goals as goal

pub loop-place-preserved : goal.loop-place-preserved
loop-place-preserved c = record {
  octets = c.in_ok-write_record.ensures.octets ∙ ap (λ xs. xs ++ record_octets c.in-Some.entry) c.loop-place.invariant.octets
      ∙ records_next c.args.sources.now c.loop-place.place c.in-Some.entry c.args.out.now.items (sym c.in-Some.ensures);
  records = whole_next c.args.sources.now c.loop-place.place c.in-Some.entry (sym c.in-Some.ensures) c.in_ok-write_record.ensures.whole c.loop-place.invariant.records;
}
