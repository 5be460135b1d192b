-- The lines of a log, as a reader gives them (profile).
use Rattle.std.specs.Prelude.{◌≡◌, ◌≢◌, ◌<◌, ◌+◌, ◌==◌, ⊤, ℕ, Bool, List, [], ◌∷◌, ◌++◌, All, length, Option, Some, None, IfSome, if◌then◌else◌}
use Rattle.std.specs.Io.{StartsWith}
use Rattle.std.specs.Io.KnownBytes.{Consumes, IsAtEnd}
use Rattle.babel_text.specs.Lines.{max_line_len}
use Rattle.babel_replay.specs.declared.reading.Part.{Part}
use Rattle.babel_replay.specs.declared.reading.Part.TheVariants as parts

abbrev pub join_first : ℕ → List (List ℕ) → List (List ℕ)
join_first octet [] = (octet ∷ []) ∷ []
join_first octet (line ∷ lines) = (octet ∷ line) ∷ lines

-- The lines of a log's octets. A line feed ends a line, and the end of the log ends its last line.
abbrev pub lines_of : List ℕ → List (List ℕ)
lines_of [] = []
lines_of (octet ∷ octets) = if octet == 10 then [] ∷ lines_of octets else join_first octet (lines_of octets)

abbrev pub first_of : List (List ℕ) → List ℕ
first_of [] = []
first_of (line ∷ lines) = line

abbrev pub IsTooLong : List ℕ → Type 0
IsTooLong line = max_line_len < length line

-- What a call does to the octets that a reader has left, if they are known: it takes their first line, if there is one.
abbrev pub ReadsLine : Option (List ℕ) → Option (List ℕ) → Bool → List ℕ → Type 0
ReadsLine None new more line = ⊤
ReadsLine (Some octets) None more line = ⊥
ReadsLine (Some octets) (Some rest) more line = lines_of octets ≡ (if more then line ∷ lines_of rest else [])

abbrev pub HasNoLineFeed : List ℕ → Type 0
HasNoLineFeed octets = All (λ octet. octet ≢ 10) octets

-- Octets that were taken from the reader, and appended but for the line feed.
pub record AppendsPart (old new : Option (List ℕ)) (before after end : List ℕ) : Type 0 where
  pub part : List ℕ
  pub appended : after ≡ before ++ part
  pub plain : HasNoLineFeed part
  pub taken : Consumes old new (part ++ end)

abbrev pub ReadsPart : Part → Option (List ℕ) → Option (List ℕ) → List ℕ → List ℕ → Type 0
ReadsPart parts.More old new before after = AppendsPart old new before after []
ReadsPart parts.Last old new before after = AppendsPart old new before after (10 ∷ [])
ReadsPart parts.AtEnd old new before after = (after ≡ before) × Consumes old new [] × IsAtEnd old

-- The octets that are left begin with a part with which the line is too long.
pub record ShowsTooMuch (left : Option (List ℕ)) (before : List ℕ) : Type 0 where
  pub part : List ℕ
  pub plain : HasNoLineFeed part
  pub front : IfSome left (λ octets. StartsWith octets part)
  pub long : max_line_len < length before + length part
