-- The keys of each kind of table (profile).
use Rattle.std.specs.Prelude.{◌≡◌, ◌⊎◌, ℕ, Bool, true, false, ◌&&◌, List, [], ◌∷◌, codes}
use Rattle.std.specs.List.{list_any}
use Rattle.std.specs.Str.{bytes_eq}
use Rattle.toml.specs.Data.{Data, table, Members, no_members, member}
use Rattle.babel_toml.specs.declared.errors.FileFault.{FileFault}
use Rattle.babel_toml.specs.declared.errors.FileFault.TheVariants.{Form}
use Rattle.babel_config.specs.declared.keys.TableKind.{TableKind}
use Rattle.babel_config.specs.declared.keys.TableKind.TheVariants.{Scenario, Config, Interface}

abbrev pub keys_of : TableKind → List (List ℕ)
keys_of Scenario = codes "events" ∷ codes "node" ∷ []
keys_of Config = codes "router-id" ∷ codes "seqno" ∷ codes "collect" ∷ codes "prefixes" ∷ codes "interface" ∷ []
keys_of Interface = codes "transport" ∷ codes "ipv4" ∷ codes "ipv6" ∷ codes "peers" ∷ codes "cost" ∷ codes "hello" ∷ []

abbrev pub is_key_of : TableKind → List ℕ → Bool
is_key_of kind key = list_any (λ known. bytes_eq key known) (keys_of kind)

abbrev pub all_keys_of : TableKind → Members → Bool
all_keys_of kind no_members = true
all_keys_of kind (member key d members) = is_key_of kind key && all_keys_of kind members

-- The value is a table of this kind: it has no other keys.
abbrev pub is_table_of : TableKind → Data → Bool
is_table_of kind (table members) = all_keys_of kind members
is_table_of kind _ = false

-- F2: the value is no table, or has a key that its kind lacks. Else the fault of a key.
abbrev pub HasTableFault : TableKind → (Data → FileFault → Type 0) → Data → FileFault → Type 0
HasTableFault kind HasKeyFault d fault =
    ((fault ≡ Form) × (is_table_of kind d ≡ false)) ⊎ ((is_table_of kind d ≡ true) × HasKeyFault d fault)
