-- If no cost changes, the selections stay current; else those that are not lost.
use Rattle.std.proofs.Common.{◌≡◌, ◌≢◌, sym, subst, ◌∙◌}
use Rattle.babel_link.specs.declared.changes.CostChanges.{CostChanges}
use Rattle.babel_link.specs.declared.changes.CostChanges.TheVariants.{Nothing, Several}
use Rattle.babel_link.specs.Neighbours.{AreLost}
use Rattle.babel_state.specs.CurrentSelections.{AreCurrent}
use Rattle.babel_state.specs.State.{State}
use Rattle.babel_state.specs.KeptRoutes.{KeepsRoutes}
use Rattle.babel_speaker.proofs.RoutesKept.{ticked_routes}
use Rattle.babel_speaker.proofs.Settling.{ticked_current}
use Rattle.babel_speaker.proofs.Losses.{ticked_unless}
use Rattle.babel_speaker.proofs.state.speaker_core.Core.tick_links.Goals as goal

known : {changes : CostChanges} → changes ≡ Nothing → changes ≢ Several
known is several = nothing-several (sym is ∙ several)
  where
    nothing-several : Nothing ≡ Several → ⊥
    nothing-several p = cc

pub returns-clause-quiet : goal.returns-clause-quiet
returns-clause-quiet c nothing current =
    let inside = c.self.inside in
    let s : State = record {
      router = inside.router;
      collects = inside.collects;
      seqno = inside.seqno;
      raises = inside.raises;
      announced = inside.announced;
      interfaces = inside.interfaces;
      neighbours = inside.neighbours;
      sources = inside.sources;
      routes = inside.routes;
      requests = inside.requests;
      pending = inside.pending;
      left_out = inside.left_out;
    } in
    let costs = c.tick_costs-changes in
    ticked_current s c.forget_each.new.self costs.new.self c.as_slice.result.now c.forget_each.ensures.state (costs.ensures.costs nothing) (c.as_slice.ensures.value ∙ costs.ensures.flushed (known nothing))
    (subst AreCurrent (sym c.self.view_is) current)

pub returns-clause-kept : goal.returns-clause-kept
returns-clause-kept c nothing =
    let inside = c.self.inside in
    let s : State = record {
      router = inside.router;
      collects = inside.collects;
      seqno = inside.seqno;
      raises = inside.raises;
      announced = inside.announced;
      interfaces = inside.interfaces;
      neighbours = inside.neighbours;
      sources = inside.sources;
      routes = inside.routes;
      requests = inside.requests;
      pending = inside.pending;
      left_out = inside.left_out;
    } in
    let costs = c.tick_costs-changes in
    subst (λ (s : State). KeepsRoutes s c.forget_each.new.self) c.self.view_is
    (ticked_routes s c.forget_each.new.self costs.new.self c.as_slice.result.now c.forget_each.ensures.state (costs.ensures.costs nothing) (c.as_slice.ensures.value ∙ costs.ensures.flushed (known nothing)))

pub returns-clause-others : goal.returns-clause-others
returns-clause-others c current =
    let inside = c.self.inside in
    let s : State = record {
      router = inside.router;
      collects = inside.collects;
      seqno = inside.seqno;
      raises = inside.raises;
      announced = inside.announced;
      interfaces = inside.interfaces;
      neighbours = inside.neighbours;
      sources = inside.sources;
      routes = inside.routes;
      requests = inside.requests;
      pending = inside.pending;
      left_out = inside.left_out;
    } in
    let costs = c.tick_costs-changes in
    ticked_unless s c.forget_each.new.self costs.new.self c.as_slice.result.now c.forget_each.ensures.state costs.ensures.grown (subst (λ peers. AreLost peers costs.new.self) (sym c.as_slice.ensures.value) costs.ensures.lost)
    (subst AreCurrent (sym c.self.view_is) current)
