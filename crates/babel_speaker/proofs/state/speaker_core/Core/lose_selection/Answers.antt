-- Without a finite route the prefix has no candidate, and none of its routes is unfeasible.
use Rattle.std.proofs.Common.{◌≡◌, ap, subst, ◌∙◌}
use Rattle.babel_route.specs.Selections.{RoutesValue}
use Rattle.babel_state.specs.SettledLaws.{AreSelectionsInOrder}
use Rattle.babel_state.specs.State.{State}
use Rattle.babel_speaker.proofs.Losses.{without_selection, lost_selection, after_lost}
use Rattle.babel_speaker.proofs.state.speaker_core.Core.lose_selection.Goals.{After-queue_updates_to_all}
use Rattle.babel_speaker.proofs.state.speaker_core.Core.lose_selection.Goals as goal

-- The state before the update is queued.
between : After-queue_updates_to_all → State
between c =
    let inside = c.self.inside in
    record {
      router = inside.router;
      collects = inside.collects;
      seqno = inside.seqno;
      raises = inside.raises;
      announced = inside.announced;
      interfaces = inside.interfaces;
      neighbours = inside.neighbours;
      sources = inside.sources;
      routes = c.unselect_at.new.self;
      requests = inside.requests;
      pending = inside.pending;
      left_out = inside.left_out;
    }

unselected : (c : After-queue_updates_to_all) → between c ≡ without_selection c.args.prefix.now c.args.self.now
unfolding between
unselected c =
    ap (λ (r : RoutesValue). record (between c) { routes = r }) c.unselect_at.ensures
    ∙ ap (without_selection c.args.prefix.now) c.self.view_is

pub returns-clause-state : goal.returns-clause-state
unfolding between
returns-clause-state c now =
    lost_selection now c.args.place c.args.prefix.now c.args.self.now (between c) c.queue_updates_to_all.new.self
    (subst (λ (s : State). AreSelectionsInOrder s) c.self.view_is c.len-count.ensures.selections_in_order) c.requires.at c.requires.none (unselected c) c.queue_updates_to_all.ensures

pub returns-clause-next : goal.returns-clause-next
unfolding between
returns-clause-next c =
    after_lost 0 c.args.place c.args.prefix.now c.args.self.now (between c) c.queue_updates_to_all.new.self
    (subst (λ (s : State). AreSelectionsInOrder s) c.self.view_is c.len-count.ensures.selections_in_order) c.requires.at c.requires.none (unselected c) c.queue_updates_to_all.ensures
