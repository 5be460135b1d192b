-- Files of configurations and scenarios (profile).
use Rattle.std.specs.Prelude.{◌≡◌, ◌⊎◌, ◌<◌, ◌≤◌, ℕ, List, length, Some, None, IsUtf8}
use Rattle.toml.specs.Data.{Data, table, Members}
use Rattle.toml.specs.Parse.{parse_document}
use Rattle.babel_toml.specs.declared.errors.FileFault.{FileFault}
use Rattle.babel_toml.specs.declared.errors.FileFault.TheVariants.{NotToml, Unreadable}

-- The greatest length of a file, in octets.
abbrev pub max_file_len : ℕ
max_file_len = 1048576

-- The octets, as many as a file may have, are a TOML document, whose table is such.
abbrev pub IsFileOf : (Data → Type 0) → List ℕ → Type 0
IsFileOf P octets =
    (length octets ≤ max_file_len) × IsUtf8 octets × ((members : Members) × (parse_document octets ≡ Some members) × P (table members))

-- F5: there are more octets. F1: they are no TOML document.
abbrev pub HasNoTable : List ℕ → FileFault → Type 0
HasNoTable octets fault =
    ((fault ≡ Unreadable) × (max_file_len < length octets))
    ⊎ ((fault ≡ NotToml) × (length octets ≤ max_file_len) × (IsUtf8 octets → parse_document octets ≡ None))

-- Why a file cannot be read: F5, else F1, else the fault of its table.
abbrev pub HasFileFault : (Data → FileFault → Type 0) → List ℕ → FileFault → Type 0
HasFileFault HasFault octets fault = HasNoTable octets fault ⊎ IsFileOf (λ d. HasFault d fault) octets
