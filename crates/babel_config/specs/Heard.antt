-- Datagrams of routers that are no nodes (profile): `hear N I A T HEX`. Node N hears the octets HEX at the moment T over its
-- interface I, from the address A.
use Rattle.std.specs.Prelude.{◌≡◌, ℕ, List, Some, codes}
use Rattle.babel_value.specs.declared.addresses.Addr.{Addr}
use Rattle.babel_value.specs.Texts.{IsAddrText}
use Rattle.babel_text.specs.Numbers.{IsNumberText}
use Rattle.babel_text.specs.Octets.{hex_octets}
use Rattle.babel_config.specs.declared.heard.HeardDatagram.{HeardDatagram}
use Rattle.babel_config.specs.Events.{IsPair, IsLong}
use Rattle.babel_text.specs.Fields.{HasBlank, before_blank, after_blank}

-- The most octets of a datagram: its length is a number of 16 bits (RFC 768).
abbrev pub max_datagram_len : ℕ
max_datagram_len = 65535

-- Octets in hexadecimal, as in a log.
abbrev pub IsOctetsText : List ℕ → List ℕ → Type 0
IsOctetsText text octets = hex_octets max_datagram_len text ≡ Some octets

abbrev pub HasHeardFields : List ℕ → HeardDatagram → Type 0
HasHeardFields text heard =
    IsPair IsLong (IsPair (IsNumberText 8) (IsPair IsAddrText (IsPair IsLong IsOctetsText))) text
    (heard.node, (heard.iface, (heard.source, (heard.now, heard.octets.items))))

-- The text begins with the word.
abbrev pub IsHearing : List ℕ → Type 0
IsHearing text = HasBlank text × (before_blank text ≡ codes "hear")

abbrev pub IsHeardText : List ℕ → HeardDatagram → Type 0
IsHeardText text heard = IsHearing text × HasHeardFields (after_blank text) heard

-- The text is this word, as part of a text with several.
abbrev pub IsSame : List ℕ → List ℕ → Type 0
IsSame text word = text ≡ word

-- Five words.
abbrev pub HasWords : List ℕ → List ℕ × (List ℕ × (List ℕ × (List ℕ × List ℕ))) → Type 0
HasWords = IsPair IsSame (IsPair IsSame (IsPair IsSame (IsPair IsSame IsSame)))

-- What the first four of them spell.
abbrev pub HaveSender : List ℕ → List ℕ → List ℕ → List ℕ → ℕ × (ℕ × (Addr × ℕ)) → Type 0
HaveSender node iface source now sender = IsLong node sender.0 × IsNumberText 8 iface sender.1.0 × IsAddrText source sender.1.1.0 × IsLong now sender.1.1.1
