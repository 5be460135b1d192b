-- The name is that of the line.
use Rattle.babel_control.proofs.lines.push_route_expiry.Goals as goal

pub returns : goal.returns
returns c = rw c.name_of-name.ensures at c.writeln.ensures.bytes
