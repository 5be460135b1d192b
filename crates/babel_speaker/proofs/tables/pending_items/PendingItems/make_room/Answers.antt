-- The oldest ones of the items or of the run are dropped.
use Rattle.std.proofs.Common.{ap, ◌∙◌, arith}
use Rattle.babel_state.specs.Queueing.{queued}
use Rattle.babel_speaker.proofs.EarlyDrops.{room_made}
use Rattle.babel_speaker.proofs.tables.pending_items.PendingItems.make_room.Goals as goal

pub returns : goal.returns
returns c xs enough =
    let old = c.self.inside in
    room_made old.target old.items c.keep_last.new.self old.run c.keep_last-2.new.self xs c.saturating_sub-room.result c.args.count old.dropped c.saturating_add-self-inside.result
    c.self.invariant c.keep_last.ensures.within c.keep_last-2.ensures.within (omega (arith, c.self.ranges)) (omega (arith, c.saturating_sub-room.ensures)) enough
    c.keep_last.ensures.elements c.keep_last-2.ensures.elements
    (omega (arith, c.saturating_add-self-inside.ensures, c.keep_last.ensures.count, c.keep_last-2.ensures.count))
    ∙ ap (queued xs) c.self.view_is
