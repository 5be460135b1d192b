-- Moments and times as text (profile): a number and a unit.
use Rattle.std.specs.Prelude.{◌≡◌, ◌*◌, ◌/◌, ℕ, List, codes}
use Rattle.babel_text.specs.Numbers.{IsNumberText}
use Rattle.babel_topology.specs.declared.times.TimeUnit.{TimeUnit}
use Rattle.babel_topology.specs.declared.times.TimeUnit.TheVariants.{Milliseconds, Seconds, Minutes}
use Rattle.babel_topology.specs.Words.{HasMark, before_mark, after_mark, blank, IsPair}

-- The text of a unit.
abbrev pub unit_text : TimeUnit → List ℕ
unit_text Milliseconds = codes "ms"
unit_text Seconds = codes "s"
unit_text Minutes = codes "min"

abbrev pub IsUnitText : List ℕ → TimeUnit → Type 0
IsUnitText text unit = text ≡ unit_text unit

-- So many of a unit, in centiseconds.
abbrev pub centiseconds : ℕ → TimeUnit → ℕ
centiseconds count Milliseconds = count / 10
centiseconds count Seconds = count * 100
centiseconds count Minutes = count * 6000

-- A time alone, and its centiseconds.
abbrev pub IsTimeText : List ℕ → ℕ → Type 0
IsTimeText text time = (read : ℕ × TimeUnit) × IsPair (IsNumberText 16) IsUnitText text read × (time ≡ centiseconds read.0 read.1)

-- A time, a blank, and what follows it.
abbrev pub IsTimedText : List ℕ → ℕ → List ℕ → Type 0
IsTimedText text time rest =
    HasMark blank text × HasMark blank (after_mark blank text) × (rest ≡ after_mark blank (after_mark blank text))
    × ((read : ℕ × TimeUnit) × IsNumberText 16 (before_mark blank text) read.0
    × IsUnitText (before_mark blank (after_mark blank text)) read.1 × (time ≡ centiseconds read.0 read.1))
