-- The events so far are spelled by the texts so far.
use Rattle.std.proofs.Common.{take}
use Rattle.toml.specs.View.{items_view}
use Rattle.babel_toml.specs.Values.{IsText, IsItems}
use Rattle.babel_config.specs.ScenarioEvents.{IsScenarioEventText}
use Rattle.babel_config.proofs.scenario_events.read_events.Given as goal

abbrev pub invariant-loop-number : goal.invariant-loop-number
invariant-loop-number l = IsItems (IsText IsScenarioEventText) (items_view (take l.number l.items.items)) l.events.items
