-- Who announces a prefix (profile).
use Rattle.std.specs.Prelude.{Bool, true, false}
use Rattle.babel_choice.specs.declared.inputs.Origin.{Origin}
use Rattle.babel_choice.specs.declared.inputs.Origin.TheVariants.{Own, Learned}

-- The speaker itself does.
abbrev pub is_own : Origin → Bool
is_own Own = true
is_own Learned = false
