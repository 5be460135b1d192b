use Rattle.std.proofs.Common.{◌≡◌, ◌++◌, length, take, sym, ap, ◌∙◌, subst}
use Rattle.std.proofs.Math.Seq.{take-append_seam}
use Rattle.std.specs.Io.KnownBytes.{Appends}
use Rattle.babel_replay.specs.Texts.{moment_text, tlv_line}
use Rattle.babel_replay.proofs.Zips.{note_goes, notes_end}
use Rattle.babel_replay.proofs.replaying.write_notes.Goals as goal

pub loop-place-preserved : goal.loop-place-preserved
loop-place-preserved g c =
    let contents = g.W.Write.contents in
    let rest = tlv_line c.in-Some.place.now c.in-Some.note.now.verdict in
    let whole = c.push_tlv.ensures ∙ ap (λ l. l ++ rest) (c.truncate.ensures ∙ c.loop-place.invariant.1) in (
      note_goes c.args.time c.loop-place.place-iterator c.next.new.self c.next.result (c.in-Some.place, c.in-Some.note)
          (contents c.args.out.now) (contents c.loop-place.out) (contents c.write_line.new.out) _
          c.in-Some.is c.next.ensures.steps c.loop-place.invariant.0
          (subst (Appends (contents c.loop-place.out) (contents c.write_line.new.out)) whole c.in_ok-write_line.ensures.written),
      ap (take (length c.octets-start.result.now)) whole
          ∙ subst (λ n. take n (moment_text c.args.time ++ rest) ≡ moment_text c.args.time) (sym c.loop-place.invariant.2) (take-append_seam (moment_text c.args.time) rest),
      c.loop-place.invariant.2,
      c.loop-place.invariant.3,
    )

pub returns-clause-written : goal.returns-clause-written
returns-clause-written g c =
    notes_end c.args.time c.loop-place.place-iterator c.next.new.self c.next.result (g.W.Write.contents c.args.out.now) (g.W.Write.contents c.loop-place.out) _
    c.in-None.is c.next.ensures.steps c.loop-place.invariant.0
