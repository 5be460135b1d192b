-- Each key, with its default.
use Rattle.std.proofs.Common.{inl, inr, []}
use Rattle.toml.specs.View.{view}
use Rattle.babel_config.specs.ScenarioEvents.{IsScenarioEventText}
use Rattle.babel_config.specs.Scenarios.{HasScenarioFault}
use Rattle.babel_toml.specs.Values.{IsText, IsList}
use Rattle.babel_config.proofs.Faults.{given_or_read, err_caused}
use Rattle.babel_config.proofs.scenarios.scenario_from_toml.Goals as goal

pub returns-clause-ok : goal.returns-clause-ok
returns-clause-ok c = record {
  keys = cc;
  events = c.in_ok-events.ensures.ok;
  configs = c.in_ok-configs.ensures.ok;
}

pub returns-in_err-configs-clause-refused : goal.returns-in_err-configs-clause-refused
returns-in_err-configs-clause-refused c =
    err_caused _ (HasScenarioFault (view c.args.value.now)) c.in_err-configs.field-0.0 c.from_residual-in_err-configs.ensures.1 (λ other. inr (
      cc,
      inr (
        given_or_read (IsList (IsText IsScenarioEventText)) [] _ c.in_ok-events.events.items c.in_ok-events.ensures.ok,
        inl (c.in_err-configs.ensures.refused other),
      ),
    ))
