-- Zero has one digit.
use Rattle.std.specs.Prelude.{◌++◌, codes, take}
use Rattle.babel_value.proofs.Groups.{zero_after}
use Rattle.babel_value.proofs.line_parts.put_zero.Goals as goal

pub returns-clause-text : goal.returns-clause-text
returns-clause-text c = cc (zero_after (take c.args.len c.args.line.now ++ codes ":"))
