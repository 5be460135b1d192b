-- The file of the table that was read.
use Rattle.toml.specs.View.{view}
use Rattle.babel_config.specs.Scenarios.{IsScenario, HasScenarioFault}
use Rattle.babel_config.proofs.Excluded.{scenario}
use Rattle.babel_config.proofs.FileReading.{file_refused, file_only}
use Rattle.babel_config.proofs.files.read_scenario.Goals as goal

pub returns-clause-refused : goal.returns-clause-refused
returns-clause-refused c = file_refused IsScenario HasScenarioFault c.args.octets.now (view c.in_ok-file.file) c.scenario_from_toml.result c.in_ok-file.ensures.ok c.scenario_from_toml.ensures.refused

pub returns-clause-only : goal.returns-clause-only
returns-clause-only c = file_only IsScenario HasScenarioFault c.args.octets.now (view c.in_ok-file.file) scenario c.scenario_from_toml.result c.in_ok-file.ensures.ok c.scenario_from_toml.ensures.refused
