-- The scenario that a table of a file is, and why a table is none (profile).
use Rattle.std.specs.Prelude.{◌≡◌, ◌⊎◌, ℕ, true, [], List, codes, Some, None}
use Rattle.toml.specs.Data.{Data, get, as_str}
use Rattle.babel_toml.specs.declared.errors.FileFault.{FileFault}
use Rattle.babel_toml.specs.declared.errors.FileFault.TheVariants as faults
use Rattle.babel_config.specs.declared.keys.TableKind.TheVariants as kinds
use Rattle.babel_config.specs.declared.scenario_events.ScenarioEvent.{ScenarioEvent}
use Rattle.babel_config.specs.declared.scenarios.Scenario.{Scenario}
use Rattle.babel_config.specs.Keys.{is_table_of, HasTableFault}
use Rattle.babel_toml.specs.Values.{IsText, IsGivenOr, IsList}
use Rattle.babel_toml.specs.Faults.{HasListFault, GivenThen, NoFault}
use Rattle.babel_config.specs.Configs.{IsConfig, HasConfigFault}
use Rattle.babel_config.specs.ScenarioEvents.{IsScenarioEventText}

-- The table of a scenario: its events, and the configurations of its nodes.
pub record IsScenario (d : Data) (s : Scenario) : Type 0 where
  pub keys : is_table_of kinds.Scenario d ≡ true
  pub events : IsGivenOr (IsList (IsText IsScenarioEventText)) [] (get (codes "events") d) s.events.items
  pub configs : IsGivenOr (IsList IsConfig) [] (get (codes "node") d) s.configs.items

-- F2: the event of this number is no text. F6: the text spells no event.
abbrev pub HasEventFault : ℕ → Data → FileFault → Type 0
HasEventFault n d fault =
    ((fault ≡ faults.Form) × (as_str d ≡ None))
    ⊎ ((fault ≡ faults.Event n) × ((text : List ℕ) × (as_str d ≡ Some text) × ((event : ScenarioEvent) → ¬ (IsScenarioEventText text event))))

-- Why a table is no scenario: the first cause, in the order of its keys.
abbrev pub HasScenarioKeyFault : Data → FileFault → Type 0
HasScenarioKeyFault d =
    GivenThen (IsList (IsText IsScenarioEventText)) (HasListFault (IsText IsScenarioEventText) HasEventFault) (get (codes "events") d)
    (GivenThen (IsList IsConfig) (HasListFault IsConfig (λ _. HasConfigFault)) (get (codes "node") d) NoFault)

abbrev pub HasScenarioFault : Data → FileFault → Type 0
HasScenarioFault = HasTableFault kinds.Scenario HasScenarioKeyFault
