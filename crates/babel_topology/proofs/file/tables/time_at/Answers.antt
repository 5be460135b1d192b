-- The time is that of the text.
use Rattle.std.proofs.Common.{sym}
use Rattle.toml.specs.View.{table_view}
use Rattle.babel_topology.proofs.FileTexts.{time_read}
use Rattle.babel_topology.proofs.file.tables.time_at.Goals as goal

pub returns-in-Some : goal.returns-in-Some
returns-in-Some c = time_read c.args.key.now (table_view c.args.table.now) _ c.parse_time.result (sym c.in-Some.ensures) c.parse_time.ensures
