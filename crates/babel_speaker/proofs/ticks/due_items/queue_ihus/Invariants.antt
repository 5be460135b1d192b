use Rattle.std.proofs.Common.{◌≡◌, map, filter}
use Rattle.std.specs.Prelude.{nat_eq}
use Rattle.babel_state.specs.declared.items.Item.TheVariants as items
use Rattle.babel_state.specs.Queueing.{queued}
use Rattle.babel_speaker.specs.TickItems.{ihus_of}
use Rattle.babel_speaker.proofs.ticks.due_items.queue_ihus.Given as goal

abbrev pub invariant-loop-peer : goal.invariant-loop-peer
invariant-loop-peer l =
    queued (map (λ peer. items.Ihu peer) (filter (λ peer. nat_eq peer.iface l.iface) l.peer-iterator)) l.pending ≡ queued (ihus_of l.iface l.neighbours) l.fn.pending
