-- The layout of a TLV or sub-TLV (RFC 8966, sections 4.3 and 4.4).
use Rattle.std.specs.Prelude.{ℕ}

-- the type of Pad1, which is this one octet alone (sections 4.6.1 and 4.7.1)
abbrev pub pad1 : ℕ
pad1 = 0

-- type and length, one octet each (section 4.3)
abbrev pub header_len : ℕ
header_len = 2

-- an octet is less than this number (section 4.1)
abbrev pub octet_bound : ℕ
octet_bound = 256

-- the most octets of a payload: the greatest length that one octet can hold (section 4.3)
abbrev pub max_payload_len : ℕ
max_payload_len = 255

-- the most octets of a datagram that is built (profile)
abbrev pub datagram_len : ℕ
datagram_len = 1024
