-- The keys so far are known.
use Rattle.std.proofs.Common.{◌≡◌, List, ◌++◌, true}
use Rattle.toml.specs.View.{members_view}
use Rattle.toml.proofs.Views.{Entry}
use Rattle.babel_config.specs.Keys.{all_keys_of}
use Rattle.babel_config.proofs.keys.has_known_keys.Given as goal

abbrev pub invariant-loop-key : goal.invariant-loop-key
invariant-loop-key l =
    (done : List Entry) × (l.table.entries ≡ done ++ l.key-iterator) × (all_keys_of l.kind (members_view done) ≡ true)
