-- The keys of a table, from the first on.
use Rattle.std.proofs.Common.{◌≡◌, true, false, List, [], ◌∷◌, ◌++◌, string_bytes, refl}
use Rattle.std.proofs.lemmas.Bool.{and_parts, and_from, and_right, and_left}
use Rattle.toml.specs.View.{members_view}
use Rattle.toml.proofs.Views.{Entry}
use Rattle.babel_config.specs.declared.keys.TableKind.{TableKind}
use Rattle.babel_config.specs.Keys.{is_key_of, all_keys_of}

pub keys_push : (kind : TableKind) (done : List Entry) (e : Entry) → all_keys_of kind (members_view done) ≡ true → is_key_of kind (string_bytes e.0) ≡ true → all_keys_of kind (members_view (done ++ e ∷ [])) ≡ true
keys_push kind [] e h k = and_from (is_key_of kind (string_bytes e.0)) true k refl
keys_push kind (x ∷ done) e h k =
    let (here, more) = and_parts (is_key_of kind (string_bytes x.0)) (all_keys_of kind (members_view done)) h in
    and_from (is_key_of kind (string_bytes x.0)) _ here (keys_push kind done e more k)

pub keys_fail : (kind : TableKind) (done : List Entry) (e : Entry) (rest : List Entry) → all_keys_of kind (members_view done) ≡ true → is_key_of kind (string_bytes e.0) ≡ false → all_keys_of kind (members_view (done ++ e ∷ rest)) ≡ false
keys_fail kind [] e rest h k = and_left (is_key_of kind (string_bytes e.0)) _ k
keys_fail kind (x ∷ done) e rest h k =
    let (here, more) = and_parts (is_key_of kind (string_bytes x.0)) (all_keys_of kind (members_view done)) h in
    and_right (is_key_of kind (string_bytes x.0)) _ (keys_fail kind done e rest more k)
