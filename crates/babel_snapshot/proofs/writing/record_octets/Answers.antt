-- The seqno and the metric follow the source.
use Rattle.std.proofs.Common.{refl, sym, ◌++◌, ◌∙◌, replicate, append_assoc}
use Rattle.byteorder.specs.Endian.{big_bytes}
use Rattle.babel_snapshot.specs.Octets.{source_octets}
use Rattle.babel_snapshot.proofs.WrittenParts.{written_over}
use Rattle.babel_snapshot.proofs.writing.record_octets.Goals as goal

pub returns-clause-octets : goal.returns-clause-octets
returns-clause-octets c =
    written_over c.copy_from_slice.new.self (replicate 4 0) c.copy_from_slice-2.new.self 26 4 c.copy_from_slice.ensures.len refl
    ∙ (λ i. (c.copy_from_slice.ensures.after ∙ c.source_octets.ensures.octets) i ++ (c.copy_from_slice-2.ensures.after ∙ c.distance_octets.ensures.octets) i)
    ∙ sym (append_assoc (source_octets c.args.source.now) (big_bytes 2 c.args.distance.seqno) (big_bytes 2 c.args.distance.metric))
