-- A stored Update changes a route of its neighbour alone.
use Rattle.std.proofs.Common.{IsTrue, is_some, ap, subst}
use Rattle.babel_speaker.proofs.LinkChanges.{stored_but}
use Rattle.babel_speaker.proofs.state.speaker_core.Core.store_and_select.Goals as goal

pub select_after-selected-requires : goal.select_after-selected-requires
select_after-selected-requires c =
    let update = c.args.update.now in
    let source = update.source in
    record {
      others = λ settled. stored_but c.args.now update.peer source.prefix source.router update.next_hop update.distance update.interval c.args.self.now c.store_update.new.self (c.in-Ok-None.ensures.stored (ap is_some c.in-Ok-None.field-0-is)) (c.requires.settled (subst IsTrue c.store_update.ensures.settled settled)) source.prefix;
    }
