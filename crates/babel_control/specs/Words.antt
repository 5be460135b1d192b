-- The words of a line (profile).
use Rattle.std.specs.Prelude.{ℕ, Bool, true, cond, List, [], ◌∷◌, ◌++◌, codes, nat_eq}
use Rattle.std.specs.List.{starts_with}
use Rattle.std.specs.Char.{is_ascii_whitespace}

-- A word, unless it is empty.
abbrev pub as_word : List ℕ → List (List ℕ)
as_word [] = []
as_word (octet ∷ rest) = (octet ∷ rest) ∷ []

-- The words of a text that goes on with a word: a blank ends it.
abbrev pub words_after : List ℕ → List ℕ → List (List ℕ)
words_after word [] = as_word word
words_after word (octet ∷ rest) =
    cond (is_ascii_whitespace octet) (as_word word ++ words_after [] rest)
    (words_after (word ++ octet ∷ []) rest)

-- The words of a text: what is between its blanks.
unfoldable pub words_of : List ℕ → List (List ℕ)
words_of text = words_after [] text

-- Whether there is no word, or the first one begins with `#`.
abbrev pub have_no_command : List (List ℕ) → Bool
have_no_command [] = true
have_no_command (word ∷ more) = starts_with nat_eq word (codes "#")
