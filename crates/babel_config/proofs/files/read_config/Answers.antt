-- The file of the table that was read.
use Rattle.toml.specs.View.{view}
use Rattle.babel_config.specs.Configs.{IsConfig, HasConfigFault}
use Rattle.babel_config.proofs.Excluded.{config}
use Rattle.babel_config.proofs.FileReading.{file_refused, file_only}
use Rattle.babel_config.proofs.files.read_config.Goals as goal

pub returns-clause-refused : goal.returns-clause-refused
returns-clause-refused c = file_refused IsConfig HasConfigFault c.args.octets.now (view c.in_ok-file.file) c.read.result c.in_ok-file.ensures.ok c.read.ensures.refused

pub returns-clause-only : goal.returns-clause-only
returns-clause-only c = file_only IsConfig HasConfigFault c.args.octets.now (view c.in_ok-file.file) config c.read.result c.in_ok-file.ensures.ok c.read.ensures.refused
