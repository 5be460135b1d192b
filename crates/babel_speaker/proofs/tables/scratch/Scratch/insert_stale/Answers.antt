-- A prefix is passed, and it's in the set if its selection isn't current.
use Rattle.std.specs.FinMap.{is_sorted}
use Rattle.std.proofs.Common.{◌≡◌, true, refl, sym, subst, arith}
use Rattle.babel_value.specs.Orders.{prefix_cmp}
use Rattle.babel_value.proofs.OrderLaws.{prefix_total}
use Rattle.babel_table.proofs.PlaceLemmas.{sorted_put}
use Rattle.babel_route.specs.Selections.{RoutesValue}
use Rattle.babel_state.specs.State.{PrefixSet}
use Rattle.babel_speaker.proofs.Staleness.{AreDone, all_done, after_current, after_stale, left_less}
use Rattle.babel_speaker.proofs.tables.scratch.Scratch.insert_stale.Goals as goal

pub loop-prefix-smaller-then-not-pass : goal.loop-prefix-smaller-then-not-pass
loop-prefix-smaller-then-not-pass g c = left_less c.in-Some.prefix c.loop-prefix.walk c.pass.new.self c.pass.ensures.rest c.in-Some.ensures.some

pub loop-prefix-smaller : goal.loop-prefix-smaller
loop-prefix-smaller g c = left_less c.in-Some.prefix c.loop-prefix.walk c.pass.new.self c.pass.ensures.rest c.in-Some.ensures.some

pub loop-prefix-preserved-then-not-pass : goal.loop-prefix-preserved-then-not-pass
loop-prefix-preserved-then-not-pass g c =
    let sources = c.args.sources.now in
    let cost = g.C.Costs.cost_of c.args.costs.now in
    let walk = c.loop-prefix.walk in
    let set = c.loop-prefix.self in
    let prefix = c.in-Some.prefix in
    let kept = c.loop-prefix.invariant in
    record {
      done = after_stale sources cost c.args.announced.now c.args.routes.now prefix _ set c.insert.new.self walk c.pass.new.self
          c.origin-origin.ensures c.insert.ensures.prefixes c.pass.ensures.rest c.if-not-pass.ensures.current kept.done;
      room = omega (arith, left_less prefix walk c.pass.new.self c.pass.ensures.rest c.in-Some.ensures.some, kept.room, c.insert.ensures.few);
      sorted = subst (λ (s : PrefixSet). is_sorted prefix_cmp s ≡ true) (sym c.insert.ensures.prefixes) (sorted_put prefix_cmp prefix_total prefix tt set kept.sorted);
    }

pub loop-prefix-preserved : goal.loop-prefix-preserved
loop-prefix-preserved g c =
    let sources = c.args.sources.now in
    let cost = g.C.Costs.cost_of c.args.costs.now in
    let walk = c.loop-prefix.walk in
    let set = c.loop-prefix.self in
    let prefix = c.in-Some.prefix in
    let kept = c.loop-prefix.invariant in
    record {
      done = after_current sources cost c.args.announced.now c.args.routes.now prefix _ set walk c.pass.new.self
          c.origin-origin.ensures c.pass.ensures.rest c.if-not-pass.ensures.current kept.done;
      room = omega (arith, left_less prefix walk c.pass.new.self c.pass.ensures.rest c.in-Some.ensures.some, kept.room);
      sorted = kept.sorted;
    }

pub returns-clause-stale : goal.returns-clause-stale
returns-clause-stale g c =
    let sources = c.args.sources.now in
    let cost = g.C.Costs.cost_of c.args.costs.now in
    let announced = c.args.announced.now in
    let routes = c.args.routes.now in
    let set = c.loop-prefix.self in
    all_done sources cost announced routes set (subst (λ (w : RoutesValue). AreDone sources cost announced routes set w) (c.in_default.ensures.none refl) c.loop-prefix.invariant.done)
