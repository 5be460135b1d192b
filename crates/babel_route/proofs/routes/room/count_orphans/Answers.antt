-- The selection at the place is counted where its prefix has no entry.
use Rattle.std.proofs.Common.{true, false, sym, arith}
use Rattle.babel_route.proofs.RoomLemmas.{orphans_from}
use Rattle.babel_route.proofs.routes.room.count_orphans.Goals.{then-is_orphan, else-is_orphan}
use Rattle.babel_route.proofs.routes.room.count_orphans.Goals as goal

pub loop-place-preserved : goal.loop-place-preserved
loop-place-preserved g c =
    let es = g.E.Table.entries c.args.entries.now in
    let ss = g.S.Table.entries c.args.selections.now in
    let kept = c.loop-place.invariant in
    elim c.if-is_orphan.branch [
      | then-is_orphan w ↦
          let here = orphans_from es ss c.loop-place.place true (sym w.if-is_orphan.ensures) in
          record { counted = omega (arith, here, kept.counted, w.count-is); few = omega (arith, kept.few, w.count-is) }
      | else-is_orphan w ↦
          let here = orphans_from es ss c.loop-place.place false (sym w.if-is_orphan.ensures) in
          record { counted = omega (arith, here, kept.counted, w.count-is); few = omega (arith, kept.few, w.count-is) }
    ]
