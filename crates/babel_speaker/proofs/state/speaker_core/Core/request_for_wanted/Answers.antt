-- A wanted route is unfeasible, so one is found.
use Rattle.std.proofs.Common.{sym, ap, ◌∙◌}
use Rattle.babel_choice.specs.Choices.{source_of}
use Rattle.babel_state.specs.PendingRequests.{has_no_room}
use Rattle.babel_state.specs.State.{State}
use Rattle.babel_speaker.proofs.Requesting.{any_wanted, wanted_requested, requested_entries}
use Rattle.babel_speaker.proofs.state.speaker_core.Core.request_for_wanted.Goals as goal

pub request_for_route-requires : goal.request_for_route-requires
request_for_route-requires c = record {
  unfeasible = any_wanted c.args.self.now c.args.route.now c.args.place c.requires.there (sym c.if-not-is_wanted.ensures);
}

pub returns-clause-state : goal.returns-clause-state
returns-clause-state c =
    wanted_requested c.args.now c.args.route.now c.args.self.now c.request_for_route.new.self (sym c.if-not-is_wanted.ensures)
    (sym (ap (λ (s : State). has_no_room (source_of c.args.route.now) s.requests) c.self.view_is) ∙ sym c.if-has_no_room.ensures) c.request_for_route.ensures

pub returns-clause-entries : goal.returns-clause-entries
returns-clause-entries c = requested_entries c.args.now c.args.route.now c.args.self.now c.request_for_route.new.self (returns-clause-state c)
