-- A text that spells no network spells no network of IPv4.
use Rattle.std.proofs.Common.{inr, refl, rules}
use Rattle.babel_config.proofs.Faults.{no_network}
use Rattle.babel_config.proofs.scalars.Ipv4NetworkTextKind.read.Goals as goal

pub returns-in_default-2-clause-refused : goal.returns-in_default-2-clause-refused
returns-in_default-2-clause-refused c = λ other. inr (
  refl,
  (c.in_ok-text.text.now, first_of (cc, search rules), no_network c.in_ok-text.text.now c.parse_network.result c.in_default.is c.parse_network.ensures),
)
