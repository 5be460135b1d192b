-- What is queued from here on leaves what all Updates leave.
use Rattle.std.proofs.Common.{◌≡◌, map}
use Rattle.babel_state.specs.Queueing.{queued}
use Rattle.babel_state.specs.declared.items.Item.TheVariants.{Update}
use Rattle.babel_state.specs.declared.items.Target.{Target}
use Rattle.babel_speaker.specs.PendingItems.{updates_only}
use Rattle.babel_speaker.proofs.tables.pending_items.push_to_run.Given as goal

abbrev pub invariant-loop-prefix : goal.invariant-loop-prefix
invariant-loop-prefix l =
    (target : Target) →
    queued (map (Update target) l.prefix-iterator) (updates_only target l.run l.dropped)
    ≡ queued (map (Update target) l.fn.prefixes) (updates_only target l.fn.run l.fn.dropped)
