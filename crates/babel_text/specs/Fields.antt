-- Fields of texts (profile). One blank separates two fields.
use Rattle.std.specs.Prelude.{◌<◌, ◌==◌, ℕ, List, length}
use Rattle.std.specs.List.{position_or_len, before_first, after_first}

-- The text has a blank; what is before the first one; and what is after it.
abbrev pub HasBlank : List ℕ → Type 0
HasBlank text = position_or_len (λ octet. octet == 32) text < length text

abbrev pub before_blank : List ℕ → List ℕ
before_blank text = before_first (λ octet. octet == 32) text

abbrev pub after_blank : List ℕ → List ℕ
after_blank text = after_first (λ octet. octet == 32) text
