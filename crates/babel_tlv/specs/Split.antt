-- The TLVs that octets spell, and the fault, as a reader finds them from left to right. `split` ensures that they are the one list
-- that spells the octets, and that the fault is the end of the longest front that is spelled.
use Rattle.std.specs.Prelude.{ℕ, zero, suc, ◌+◌, List, [], ◌∷◌, length, take, drop, nat_lt, if◌then◌else◌, Option, Some, None}
use Rattle.babel_tlv.specs.Layout.{pad1, header_len}
use Rattle.babel_tlv.specs.Place.{Place}

-- the TLVs of octets that begin at `offset`, the first `skip` of which belong to the TLV before; they end at one that runs past
-- the end (RFC 8966, section 4.3)
abbrev pub places_at : ℕ → ℕ → List ℕ → List Place
places_at skip offset [] = []
places_at (suc skip) offset (b ∷ bs) = places_at skip (offset + 1) bs
places_at zero offset (zero ∷ bs) = record { offset = offset; kind = pad1; payload = [] } ∷ places_at zero (offset + 1) bs
places_at zero offset (suc k ∷ []) = []
places_at zero offset (suc k ∷ len ∷ bs) =
    if nat_lt (length bs) len then [] else record { offset = offset; kind = suc k; payload = take len bs } ∷ places_at len (offset + header_len) bs

-- the offset of the TLV that runs past the end, if one does (profile)
abbrev pub fault_at : ℕ → ℕ → List ℕ → Option ℕ
fault_at skip offset [] = None
fault_at (suc skip) offset (b ∷ bs) = fault_at skip (offset + 1) bs
fault_at zero offset (zero ∷ bs) = fault_at zero (offset + 1) bs
fault_at zero offset (suc k ∷ []) = Some offset
fault_at zero offset (suc k ∷ len ∷ bs) = if nat_lt (length bs) len then Some offset else fault_at len (offset + header_len) bs

-- the TLVs of all the octets, up to the fault (RFC 8966, sections 4.2 and 4.3)
abbrev pub places_of : List ℕ → List Place
places_of bytes = places_at 0 0 bytes

-- the fault of all the octets (profile)
abbrev pub fault_of : List ℕ → Option ℕ
fault_of bytes = fault_at 0 0 bytes

-- the type and payload of the first TLV and the octets after it, if that TLV is whole (RFC 8966, section 4.3)
abbrev pub first_of : List ℕ → Option (ℕ × List ℕ × List ℕ)
first_of [] = None
first_of (zero ∷ bs) = Some (pad1, [], bs)
first_of (suc k ∷ []) = None
first_of (suc k ∷ len ∷ bs) = if nat_lt (length bs) len then None else Some (suc k, take len bs, drop len bs)
