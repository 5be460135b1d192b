-- How TLVs are spelled, and which octets a list of them spells.
use Rattle.std.specs.Prelude.{◌≡◌, ℕ, zero, suc, ◌+◌, ◌<◌, ◌≤◌, List, [], ◌∷◌, length, take, slice_range}
use Rattle.std.specs.List.{flat_map, AllByRecursion}
use Rattle.babel_tlv.specs.Layout.{pad1, header_len, octet_bound}
use Rattle.babel_tlv.specs.Place.{Place}

-- Pad1, of type 0, is one octet; any other TLV is its type, its length and its payload (RFC 8966, sections 4.3 and 4.6.1);
-- sub-TLVs are spelled alike (sections 4.4 and 4.7.1)
abbrev pub spelled : ℕ → List ℕ → List ℕ
spelled zero payload = pad1 ∷ []
spelled (suc k) payload = suc k ∷ length payload ∷ payload

-- the octets of the TLV at a place
abbrev pub spelling : Place → List ℕ
spelling t = spelled t.kind t.payload

-- type and length each fit an octet, and Pad1 has no payload (RFC 8966, sections 4.3 and 4.4)
pub record IsTlv (t : Place) : Type 0 where
  pub kind_fits : t.kind < octet_bound
  pub payload_fits : length t.payload < octet_bound
  pub pad1_is_bare : t.kind ≡ pad1 → t.payload ≡ []

-- each TLV begins at the end of the one before it, the first at this offset (RFC 8966, section 4.2: a body is a sequence of TLVs)
abbrev pub AreInPlace : ℕ → List Place → Type 0
AreInPlace offset [] = Unit {0}
AreInPlace offset (t ∷ ts) = (t.offset ≡ offset) × AreInPlace (offset + length (spelling t)) ts

-- the TLVs spell the octets: these are their spellings, one after the other (RFC 8966, sections 4.2 and 4.3)
pub record Spells (ts : List Place) (bytes : List ℕ) : Type 0 where
  pub tlvs : AllByRecursion IsTlv ts
  pub whole : bytes ≡ flat_map spelling ts
  pub places : AreInPlace 0 ts

-- the fault of octets that no list spells is the length of their longest front that a list spells (profile)
pub record IsFault (bytes : List ℕ) (offset : ℕ) : Type 0 where
  pub within : offset < length bytes
  pub front : (ts : List Place) × Spells ts (take offset bytes)
  pub longest : (ts : List Place) (n : ℕ) → n ≤ length bytes → Spells ts (take n bytes) → n ≤ offset

-- the payload is the slice of the octets after type and length (RFC 8966, section 4.3)
abbrev pub IsSliceOf : List ℕ → Place → Type 0
IsSliceOf bytes t = t.payload ≡ slice_range bytes (t.offset + header_len) (t.offset + header_len + length t.payload)
