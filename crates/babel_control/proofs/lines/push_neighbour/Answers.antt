-- The name and the digits are those of the line.
use Rattle.babel_control.proofs.lines.push_neighbour.Goals as goal

pub returns : goal.returns
returns c = rw (c.in_radix.ensures, c.name_of-name.ensures) at c.writeln.ensures.bytes
