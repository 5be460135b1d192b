-- The first octets, as a number.
use Rattle.std.proofs.Common.{rules}
use Rattle.babel_packet.proofs.Words.{front_number}
use Rattle.babel_packet.proofs.prefixes.front.Goals as goal

pub returns : goal.returns
returns c = front_number c.args.octets c.args.kept c.from_be_bytes.result (search rules) (search rules) c.requires c.from_be_bytes.ensures
