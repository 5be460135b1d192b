-- The words of a text (profile): one octet, as a blank, is between two of them.
use Rattle.std.specs.Prelude.{◌<◌, ◌==◌, ℕ, List, length}
use Rattle.std.specs.List.{position_or_len, before_first, after_first}

-- The text has this octet; what is before the first one; and what is after it.
abbrev pub HasMark : ℕ → List ℕ → Type 0
HasMark mark text = position_or_len (λ octet. octet == mark) text < length text

abbrev pub before_mark : ℕ → List ℕ → List ℕ
before_mark mark text = before_first (λ octet. octet == mark) text

abbrev pub after_mark : ℕ → List ℕ → List ℕ
after_mark mark text = after_first (λ octet. octet == mark) text

-- A blank, and a dash.
abbrev pub blank : ℕ
blank = 32

abbrev pub dash : ℕ
dash = 45

-- A word, and what follows it.
abbrev pub IsPair : {A B : Type 0} → (List ℕ → A → Type 0) → (List ℕ → B → Type 0) → List ℕ → A × B → Type 0
IsPair IsWord IsRest text pair = HasMark blank text × IsWord (before_mark blank text) pair.0 × IsRest (after_mark blank text) pair.1
