-- No route is a candidate while no link has a finite cost, and what follows is what follows from a loss.
use Rattle.std.proofs.Common.{◌≡◌, Some, None, slice_get, refl, sym, ap, subst, ◌∙◌}
use Rattle.babel_route.specs.Selections.{RoutesValue}
use Rattle.babel_state.specs.SettledLaws.{AreSelectionsInOrder}
use Rattle.babel_state.specs.State.{State, selected_at}
use Rattle.babel_speaker.proofs.Losses.{without_selection, costly_none, had_first, none_selected, first_gone}
use Rattle.babel_speaker.proofs.SelectionChanges.{follows_alone}
use Rattle.babel_speaker.proofs.StaleReselections.{changed_reselected}
use Rattle.babel_speaker.proofs.state.speaker_core.Core.lose_first.Goals.{After-follow_origin}
use Rattle.babel_speaker.proofs.state.speaker_core.Core.lose_first.Goals as goal

-- The state before what follows.
between : After-follow_origin → State
between c =
    let inside = c.self.inside in
    record {
      router = inside.router;
      collects = inside.collects;
      seqno = inside.seqno;
      raises = inside.raises;
      announced = inside.announced;
      interfaces = inside.interfaces;
      neighbours = inside.neighbours;
      sources = inside.sources;
      routes = c.unselect_at.new.self;
      requests = inside.requests;
      pending = inside.pending;
      left_out = inside.left_out;
    }

unselected : (c : After-follow_origin) → between c ≡ without_selection c.args.selected.now.0 c.args.self.now
unfolding between
unselected c =
    ap (λ (r : RoutesValue). record (between c) { routes = r }) c.unselect_at.ensures
    ∙ ap (without_selection c.args.selected.now.0) c.self.view_is

in_order : (c : After-follow_origin) → AreSelectionsInOrder c.args.self.now
in_order c = subst (λ (s : State). AreSelectionsInOrder s) c.self.view_is c.len-count.ensures.selections_in_order

pub unselect_at-requires : goal.unselect_at-requires
unselect_at-requires c = (c.args.selected.now.1, ap (λ (s : State). slice_get s.routes.selections 0) c.self.view_is ∙ c.requires.first)

pub returns-clause-state : goal.returns-clause-state
unfolding between
returns-clause-state c =
    let prefix = c.args.selected.now.0 in
    let s = c.args.self.now in
    let old = Some c.args.selected.now.1 in
    let followed = follows_alone c.args.now prefix old None (between c) c.follow_origin.new.self c.follow_origin.result (λ yes. c.follow_origin.ensures.requested yes None old None refl) (λ no. c.follow_origin.ensures.advertised no None old None refl) in
    changed_reselected c.args.now prefix s (between c) c.follow_origin.new.self old None (unselected c ∙ sym (costly_none prefix s c.requires.costs)) (sym (had_first c.args.selected.now s (in_order c) c.requires.first)) (sym (ap (selected_at prefix) (unselected c) ∙ none_selected prefix s)) followed

pub returns-clause-next : goal.returns-clause-next
returns-clause-next c =
    first_gone c.args.now c.args.selected.now c.args.self.now c.follow_origin.new.self (in_order c) c.requires.first c.requires.costs (returns-clause-state c)
