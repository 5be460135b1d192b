-- Where a control socket is (profile).
use Rattle.std.specs.Prelude.{◌≡◌, ◌≢◌, ℕ, List}
use Rattle.babel_text.specs.Numbers.{IsNumberText}
use Rattle.babel_control.specs.declared.places.ControlPlace.{ControlPlace}
use Rattle.babel_control.specs.declared.places.ControlPlace.TheVariants.{Path, Port}

-- A path is the text itself, which spells no number of 16 bits. A port is the number that the text spells, and not 0.
abbrev pub IsPlaceOf : List ℕ → ControlPlace → Type 0
IsPlaceOf text (Path path) = (path.now ≡ text) × ((number : ℕ) → ¬ (IsNumberText 16 text number))
IsPlaceOf text (Port port) = IsNumberText 16 text port × (port ≢ 0)
