-- The finite updates of a datagram that is heard from a router of others.
use Rattle.std.specs.Prelude.{◌<◌, List, [], All}
use Rattle.babel_value.specs.Seqnos.{seqno_modulus}
use Rattle.babel_message.specs.declared.placements.Content.{Content}
use Rattle.babel_message.specs.declared.placements.Content.TheVariants as contents
use Rattle.babel_state.specs.Seen.{UpdateValue, update_of}

-- The finite updates of a place.
abbrev pub updates_at : Content → List UpdateValue
updates_at (contents.Message message) = update_of message
updates_at content = []

-- Their seqnos have 16 bits (RFC 8966, section 4.6.9).
abbrev pub HaveWords : List UpdateValue → Type 0
HaveWords = All (λ (u : UpdateValue). u.distance.seqno < seqno_modulus)
