-- The two kinds of Hellos, each with seqnos of its own (RFC 8966, sections 3.4.1 and 4.6.5).
use Rattle.std.specs.Prelude.{Bool, true, false}
use Rattle.babel_value.specs.declared.hellos.HelloKind.{HelloKind}
use Rattle.babel_value.specs.declared.hellos.HelloKind.TheVariants.{Multicast, Unicast}

-- The kind as the U flag of a Hello (RFC 8966, section 4.6.5).
abbrev pub is_unicast : HelloKind → Bool
is_unicast Multicast = false
is_unicast Unicast = true
