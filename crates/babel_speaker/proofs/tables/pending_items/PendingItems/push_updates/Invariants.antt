-- What is queued from here on leaves what all Updates leave.
use Rattle.std.proofs.Common.{◌≡◌, map}
use Rattle.babel_state.specs.Queueing.{queued}
use Rattle.babel_state.specs.declared.items.Item.TheVariants.{Update}
use Rattle.babel_speaker.proofs.tables.pending_items.PendingItems.push_updates.Given as goal

abbrev pub invariant-loop-prefix : goal.invariant-loop-prefix
invariant-loop-prefix l =
    queued (map (Update l.target) l.prefix-iterator) l.self ≡ queued (map (Update l.target) l.fn.prefixes) l.fn.self
