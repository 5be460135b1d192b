-- TLVs at their offsets among octets.
use Rattle.std.specs.Prelude.{ℕ, List, [], ◌∷◌, Option, None}

-- a TLV or sub-TLV (RFC 8966, sections 4.3 and 4.4) with its offset: how many octets precede its type
pub record Place : Type 0 where
  pub offset : ℕ
  pub kind : ℕ
  pub payload : List ℕ

-- what a walk over octets has not read yet (profile): the places, the offset of the TLV after them that runs past the end, if one does,
-- and the end, which is how many octets there are
pub record Ahead : Type 0 where
  pub places : List Place
  pub fault : Option ℕ
  pub end : ℕ

-- the fault that a walk has come to (profile): none as long as a place is ahead
abbrev pub fault_if_last : List Place → Option ℕ → Option ℕ
fault_if_last [] fault = fault
fault_if_last (t ∷ ts) fault = None

abbrev pub fault_reached : Ahead → Option ℕ
fault_reached ahead = fault_if_last ahead.places ahead.fault
