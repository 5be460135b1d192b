-- Router-ids, as lists of octets (RFC 8966, section 4.1.3).
use Rattle.std.specs.Prelude.{ℕ, List, Bool, Option, Some, None, ◌||◌, replicate, if◌then◌else◌}
use Rattle.std.specs.Str.{bytes_eq}

-- All zeros and all ones are reserved.
abbrev pub is_reserved : List ℕ → Bool
is_reserved octets = bytes_eq octets (replicate 8 0) || bytes_eq octets (replicate 8 255)

-- The router-id of these octets, unless they are reserved.
abbrev pub router_id_of : List ℕ → Option (List ℕ)
router_id_of octets = if is_reserved octets then None else Some octets
