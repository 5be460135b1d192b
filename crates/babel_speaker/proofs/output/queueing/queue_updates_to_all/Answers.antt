-- One interface more.
use Rattle.std.proofs.Common.{◌≡◌, ℕ, suc, ◌+◌, ◌-◌, ◌<◌, ◌∷◌, map, sym, ap, ◌∙◌, arith}
use Rattle.std.specs.List.{range_with_len}
use Rattle.std.proofs.lemmas.List.FromFn.{length-map-range_with_len}
use Rattle.babel_state.specs.Queueing.{queued}
use Rattle.babel_state.specs.Reselection.{update_to_all}
use Rattle.babel_speaker.proofs.output.queueing.queue_updates_to_all.Goals as goal

first_of_range : (a b : ℕ) → a < b → range_with_len a (b - a) ≡ a ∷ range_with_len (a + 1) (b - (a + 1))
first_of_range a b less = let left : b - a ≡ suc (b - (a + 1)) = omega (arith, less) in ap (range_with_len a) left

pub loop-iface-init : goal.loop-iface-init
loop-iface-init c =
    let all = map (update_to_all c.args.prefix) (range_with_len 0 c.args.interfaces) in
    let whole : c.args.interfaces - 0 ≡ c.args.interfaces = omega arith in
    rw whole (c.make_room.ensures all (omega (arith, c.from.ensures, length-map-range_with_len (update_to_all c.args.prefix) 0 c.args.interfaces)))

pub loop-iface-preserved : goal.loop-iface-preserved
unfolding queued
loop-iface-preserved c =
    let rest = range_with_len (c.loop-iface.iface + 1) (c.args.interfaces - (c.loop-iface.iface + 1)) in
    let more = first_of_range c.loop-iface.iface c.args.interfaces (omega (arith, c.loop-iface-test.true)) in
    ap (queued (map (update_to_all c.args.prefix) rest)) c.queue_update.ensures
    ∙ sym (ap (λ is. queued (map (update_to_all c.args.prefix) is) c.loop-iface.pending) more)
    ∙ c.loop-iface.invariant
