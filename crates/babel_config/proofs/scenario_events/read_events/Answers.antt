-- One more event.
use Rattle.std.proofs.Common.{inr, rules}
use Rattle.toml.specs.View.{view, items_view}
use Rattle.babel_toml.specs.Values.{IsText}
use Rattle.babel_toml.specs.Faults.{HasListFault}
use Rattle.babel_config.specs.ScenarioEvents.{IsScenarioEventText}
use Rattle.babel_config.specs.Scenarios.{HasEventFault}
use Rattle.babel_config.proofs.Reading.{items_grow}
use Rattle.babel_config.proofs.Faults.{item_fault, err_caused}
use Rattle.babel_config.proofs.scenario_events.read_events.Goals as goal

pub returns-in_err-event-clause-refused : goal.returns-in_err-event-clause-refused
returns-in_err-event-clause-refused c =
    err_caused _ (HasListFault (IsText IsScenarioEventText) HasEventFault (view c.args.value.now)) c.in_err-event.field-0.0 c.from_residual.ensures.1 (λ other. inr (
      items_view c.in-Some.items.now.items,
      first_of (cc, search rules),
      item_fault (IsText IsScenarioEventText) HasEventFault c.in-Some.items.now.items c.loop-number.number c.index.result.now c.loop-number.events.items _
          (first_of (cc, search rules)) (first_of (cc, search rules)) c.loop-number.invariant (c.in_err-event.ensures.refused other),
    ))

pub loop-number-preserved : goal.loop-number-preserved
loop-number-preserved c =
    items_grow (IsText IsScenarioEventText) c.in-Some.items.now.items c.loop-number.number c.index.result.now c.loop-number.events.items c.push.new.self.items
    c.in_ok-event.event (first_of (cc, search rules)) (first_of (cc, search rules)) c.in_ok-push.ensures.items c.loop-number.invariant c.in_ok-event.ensures.ok
