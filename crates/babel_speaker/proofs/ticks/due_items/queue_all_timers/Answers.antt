-- Each interface is passed.
use Rattle.std.proofs.Common.{◌∙◌, ◌+◌, ap, drop, sym}
use Rattle.babel_state.specs.Queueing.{Pending, queued}
use Rattle.babel_state.specs.State.{prefixes_in}
use Rattle.babel_speaker.specs.TickItems.{all_timers_of}
use Rattle.babel_speaker.proofs.DueItems.{one_timed, none_timed}
use Rattle.babel_speaker.proofs.ticks.due_items.queue_all_timers.Goals.{in-Some, in_default}
use Rattle.babel_speaker.proofs.ticks.due_items.queue_all_timers.Goals as goal

pub loop-iface-preserved : goal.loop-iface-preserved
loop-iface-preserved c =
    let neighbours = c.args.neighbours.now in
    let prefixes = prefixes_in c.args.prefixes.now in
    let interfaces = c.args.interfaces.now in
    let iface = c.loop-iface.iface in
    let rest : Pending → Pending = queued (all_timers_of c.args.now neighbours prefixes (iface + 1) (drop (iface + 1) interfaces)) in
    elim c.match-get.branch [
      | in-Some w ↦ ap rest w.pending-is ∙ one_timed c.args.now neighbours prefixes interfaces iface w.in-Some.interface c.loop-iface.pending w.queue_timers.new.pending (sym c.get.ensures.interface ∙ w.in-Some.is) w.queue_timers.ensures ∙ c.loop-iface.invariant
      | in_default w ↦ ap rest w.pending-is ∙ none_timed c.args.now neighbours prefixes interfaces iface c.loop-iface.pending (sym c.get.ensures.interface ∙ w.in_default.is) ∙ c.loop-iface.invariant
    ]
