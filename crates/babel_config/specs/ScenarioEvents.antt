-- The texts of the events of a scenario (profile): those of its own nodes' events, and those of datagrams that a node hears.
use Rattle.std.specs.Prelude.{ℕ, List}
use Rattle.babel_config.specs.declared.scenario_events.ScenarioEvent.{ScenarioEvent}
use Rattle.babel_config.specs.declared.scenario_events.ScenarioEvent.TheVariants as events
use Rattle.babel_config.specs.Events.{IsEventText}
use Rattle.babel_config.specs.Heard.{IsHeardText}

abbrev pub IsScenarioEventText : List ℕ → ScenarioEvent → Type 0
IsScenarioEventText text (events.Ours event) = IsEventText text event
IsScenarioEventText text (events.Heard heard) = IsHeardText text heard
