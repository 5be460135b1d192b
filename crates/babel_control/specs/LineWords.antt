-- The words of a line, as far as the reader keeps them.
use Rattle.std.specs.Prelude.{◌≡◌, ◌<◌, ℕ, List, [], ◌∷◌, length, true, false}
use Rattle.babel_control.specs.Words.{have_no_command}
use Rattle.babel_control.specs.declared.commands.LineWords.{LineWords}
use Rattle.babel_control.specs.declared.commands.LineWords.TheVariants.{Nothing, One, Two, More}

abbrev pub AreWords : List (List ℕ) → LineWords → Type 0
AreWords words Nothing = have_no_command words ≡ true
AreWords words (One word) = (words ≡ word.now ∷ []) × (have_no_command words ≡ false)
AreWords words (Two word argument) = (words ≡ word.now ∷ argument.now ∷ []) × (have_no_command words ≡ false)
AreWords words More = (2 < length words) × (have_no_command words ≡ false)
