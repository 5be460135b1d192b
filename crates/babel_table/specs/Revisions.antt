-- What a revision makes of a value (profile).
use Rattle.std.specs.Prelude.{Option, Some, None}
use Rattle.babel_table.specs.declared.revisions.Revised.{Revised}
use Rattle.babel_table.specs.declared.revisions.Revised.TheVariants.{Kept, Changed, Removed}

-- The value after a revision of this one, or none if its entry is removed.
abbrev pub revised_value : {V : Type 0} → V → Revised V → Option V
revised_value value Kept = Some value
revised_value value (Changed changed) = Some changed
revised_value value Removed = None
