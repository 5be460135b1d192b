-- What is forgotten in the route table is forgotten in the state.
use Rattle.std.proofs.Common.{ap, ◌∙◌}
use Rattle.babel_route.specs.Selections.{RoutesValue}
use Rattle.babel_state.specs.State.{State}
use Rattle.babel_state.specs.Ticks.{forget_each}
use Rattle.babel_speaker.proofs.LinkChanges.{all_forgets}
use Rattle.babel_speaker.proofs.state.speaker_core.Core.forget_each.Goals as goal

pub returns-clause-state : goal.returns-clause-state
returns-clause-state c =
    let inside = c.self.inside in
    let s : State = record {
      router = inside.router;
      collects = inside.collects;
      seqno = inside.seqno;
      raises = inside.raises;
      announced = inside.announced;
      interfaces = inside.interfaces;
      neighbours = inside.neighbours;
      sources = inside.sources;
      routes = inside.routes;
      requests = inside.requests;
      pending = inside.pending;
      left_out = inside.left_out;
    } in
    ap (λ (r : RoutesValue). record s { routes = r }) c.forget_all.ensures.routes
    ∙ all_forgets c.args.peers.now s
    ∙ ap (forget_each c.args.peers.now) c.self.view_is
