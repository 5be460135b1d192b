-- The walk passes each prefix, and ends at the first whose selection isn't current.
use Rattle.std.proofs.Common.{[], refl, sym, ap, ◌∙◌}
use Rattle.std.proofs.lemmas.Bool.{false≢true}
use Rattle.babel_route.specs.Currency.{is_current}
use Rattle.babel_speaker.proofs.Staleness.{after_current, left_less}
use Rattle.babel_speaker.proofs.CurrentWalks.{passed_all, found_one}
use Rattle.babel_speaker.proofs.ticks.deadlines.none_is_stale.Goals as goal

pub returns-then-not-pass : goal.returns-then-not-pass
returns-then-not-pass g c =
    let sources = c.args.sources.now in
    let cost = g.C.Costs.cost_of c.args.costs.now in
    let announced = c.args.announced.now in
    let routes = c.args.routes.now in
    let walk = c.loop-prefix.walk in
    let prefix = c.in-Some.prefix in
    let stale = ap (λ local. is_current sources cost prefix local walk) (sym c.origin-origin.ensures) ∙ sym c.if-not-pass.ensures.current in
    let found = found_one sources cost announced routes prefix walk stale c.loop-prefix.invariant in
    (λ never. absurd (false≢true never), λ fresh. absurd (false≢true (sym (fresh prefix) ∙ found)))

pub loop-prefix-smaller : goal.loop-prefix-smaller
loop-prefix-smaller g c =
    left_less c.in-Some.prefix c.loop-prefix.walk c.pass.new.self c.pass.ensures.rest c.in-Some.ensures.some

pub loop-prefix-preserved : goal.loop-prefix-preserved
loop-prefix-preserved g c =
    after_current c.args.sources.now (g.C.Costs.cost_of c.args.costs.now) c.args.announced.now c.args.routes.now c.in-Some.prefix _ [] c.loop-prefix.walk c.pass.new.self
    c.origin-origin.ensures c.pass.ensures.rest c.if-not-pass.ensures.current c.loop-prefix.invariant

pub returns : goal.returns
returns g c = (
  λ always. passed_all c.args.sources.now (g.C.Costs.cost_of c.args.costs.now) c.args.announced.now c.args.routes.now c.loop-prefix.walk (c.in_default.ensures.none refl) c.loop-prefix.invariant,
  λ fresh. refl,
)
