use Rattle.std.proofs.Common.{List, ℕ, [], slice_get, ◌∙◌, subst}
use Rattle.std.specs.Io.KnownBytes.{Appends}
use Rattle.std.specs.Option.{option_map_or}
use Rattle.babel_replay.specs.Report.{line_after}
use Rattle.babel_replay.proofs.Printing.{selection_goes}
use Rattle.babel_replay.proofs.replaying.Replayer.write_changes.Goals as goal

pub loop-index-preserved : goal.loop-index-preserved
loop-index-preserved g c =
    let contents = g.W.Write.contents in
    let mid = c.loop-index.self in
    let before = c.loop-index.invariant in
    let step =
    selection_goes c.args.time c.args.self.now.speaker.state c.args.self.now.seen.entries c.loop-index.index mid.speaker.state
    mid.seen.entries c.write_selection.new.self.seen.entries
    (contents c.args.out.now) (contents c.loop-index.out) (contents c.write_selection.new.out) _
    before.0 before.1 before.2
    (subst
    (λ (head : List ℕ). Appends (contents c.loop-index.out) (contents c.write_selection.new.out) (option_map_or (line_after head mid.speaker.state) (slice_get mid.seen.entries c.loop-index.index) []))
    before.3 c.in_ok-write_selection.ensures.written)
    c.in_ok-write_selection.ensures.seen in
    (c.write_selection.ensures.speaker ∙ before.0, step.0, step.1, c.write_selection.ensures.head ∙ before.3, c.write_selection.ensures.begun, before.5)
