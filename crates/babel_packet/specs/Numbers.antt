-- Numbers and flags in a payload, by their offset. All numbers are unsigned, the most significant octet first (RFC 8966, section 4.1.1).
use Rattle.std.specs.Prelude.{ℕ, ◌+◌, ◌*◌, List, Bool, not, nat_eq, bit_and, slice_index}
use Rattle.babel_tlv.specs.Layout.{octet_bound}

abbrev pub octet : List ℕ → ℕ → ℕ
octet p at = slice_index p at

-- the number in the two octets at this offset
unfoldable pub word : List ℕ → ℕ → ℕ
word p at = octet_bound * octet p at + octet p (at + 1)

unfoldable pub has_flag : ℕ → ℕ → Bool
has_flag flags flag = not (nat_eq (bit_and flags flag) 0)
