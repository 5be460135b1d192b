-- A text that spells no address spells no IPv6 address.
use Rattle.std.proofs.Common.{inr, refl, rules}
use Rattle.babel_value.specs.declared.addresses.Addr.TheVariants.{V6}
use Rattle.babel_value.specs.Texts.{IsAddrText}
use Rattle.babel_config.proofs.Faults.{never_spelled}
use Rattle.babel_config.proofs.scalars.Ipv6AddrTextKind.read.Goals as goal

pub returns-in_default-2-clause-refused : goal.returns-in_default-2-clause-refused
returns-in_default-2-clause-refused c = λ other. inr (
  refl,
  (
    c.in_ok-text.text.now,
    first_of (cc, search rules),
    λ octets. never_spelled IsAddrText c.in_ok-text.text.now c.parse.result c.in_default.field-0 c.in_default.is c.parse.ensures.value (V6 octets),
  ),
)
