-- What leaves the route table as it is leaves the state as it is.
use Rattle.std.proofs.Common.{sym, ap, subst, ◌∙◌}
use Rattle.babel_route.specs.Selections.{RoutesValue, IsCurrentBut, reselected}
use Rattle.babel_state.specs.Reselection.{select}
use Rattle.babel_state.specs.State.{State, announces}
use Rattle.babel_speaker.specs.Costs.{link_cost}
use Rattle.babel_speaker.specs.LinkChanges.{IsCurrentButAt}
use Rattle.babel_speaker.proofs.state.speaker_core.Core.kept_selection.Goals as goal

pub returns-clause-kept : goal.returns-clause-kept
returns-clause-kept c = λ some.
    let inside = c.self.inside in
    let prefix = c.args.prefix.now in
    let peer = c.args.known.now.peer in
    let s : State = record {
      router = inside.router;
      collects = inside.collects;
      seqno = inside.seqno;
      raises = inside.raises;
      announced = inside.announced;
      interfaces = inside.interfaces;
      neighbours = inside.neighbours;
      sources = inside.sources;
      routes = inside.routes;
      requests = inside.requests;
      pending = inside.pending;
      left_out = inside.left_out;
    } in
    let local = announces prefix s in
    let interfaces = ap (λ l. l.interfaces.now) c.new-costs.ensures.links ∙ c.new-links.ensures.interfaces in
    let neighbours = ap (λ l. l.neighbours.now) c.new-costs.ensures.links ∙ c.new-links.ensures.neighbours in
    let others : IsCurrentButAt peer prefix s = subst (IsCurrentButAt peer prefix) (sym c.self.view_is) c.requires.others in
    let by_links = subst (λ cost. IsCurrentBut s.sources cost peer prefix local s.routes) (λ i q. link_cost (sym interfaces i) (sym neighbours i) q) others in
    sym c.self.view_is
    ∙ ap (λ (routes : RoutesValue). record s { routes = routes }) (c.kept_selection.ensures.kept some local by_links)
    ∙ (λ i. record s { routes = reselected s.sources (λ q. link_cost (interfaces i) (neighbours i) q) prefix local s.routes })
    ∙ ap (select prefix) c.self.view_is
