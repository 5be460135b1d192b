-- The words of a text, one at a time.
use Rattle.std.proofs.Common.{◌≡◌, ◌<◌, ◌≤◌, ℕ, suc, true, false, List, [], ◌∷◌, ◌++◌, Option, Some, None, length, get_or, refl, sym, ap, ◌∙◌, append_assoc, append-nil, arith}
use denote.Ref.{Bor}
use Rattle.std.specs.Char.{is_ascii_whitespace}
use Rattle.std.specs.List.{AllPass}
use Rattle.std.specs.Str.{NoCharPasses}
use Rattle.std.specs.Str.Iter.{CutsAsciiWord, IsAsciiSeparator}
use Rattle.std.proofs.lemmas.Bool.{cond-true, cond-false}
use Rattle.std.proofs.lemmas.Str.{NoCharPasses-byte}
use Rattle.std.proofs.lemmas.List.Elements.{All-head, All-tail}
use Rattle.babel_control.specs.Words.{as_word, words_after, words_of}

abbrev IsBlank : ℕ → Type 0
IsBlank octet = is_ascii_whitespace octet ≡ true

abbrev IsVisible : List ℕ → Type 0
IsVisible text = (i : ℕ) → i < length text → is_ascii_whitespace (get_or text i 0) ≡ false

-- Blanks are ASCII.
wide : (octet : ℕ) → 128 ≤ octet → is_ascii_whitespace octet ≡ false
wide octet w = grind arith

visible : (text : List ℕ) → NoCharPasses is_ascii_whitespace text → IsVisible text
visible text none i inside = grind (arith, NoCharPasses-byte is_ascii_whitespace text i none inside, wide (get_or text i 0))

-- Blanks come before no word.
blanks : (gap rest : List ℕ) → AllPass is_ascii_whitespace gap → words_after [] (gap ++ rest) ≡ words_after [] rest
blanks [] rest all = refl
blanks (octet ∷ gap) rest all =
    cond-true (is_ascii_whitespace octet) (words_after [] (gap ++ rest)) (words_after (octet ∷ []) (gap ++ rest)) (All-head IsBlank octet gap all)
    ∙ blanks gap rest (All-tail IsBlank octet gap all)

-- A word goes on up to a blank.
goes_on : (word more rest : List ℕ) → IsVisible more → words_after word (more ++ rest) ≡ words_after (word ++ more) rest
goes_on word [] rest seen = ap (λ w. words_after w rest) (sym (append-nil word))
goes_on word (octet ∷ more) rest seen =
    cond-false (is_ascii_whitespace octet) (as_word word ++ words_after [] (more ++ rest)) (words_after (word ++ octet ∷ []) (more ++ rest)) (seen 0 (omega arith))
    ∙ (goes_on (word ++ octet ∷ []) more rest (λ i inside. seen (suc i) (omega arith))
    ∙ ap (λ w. words_after w rest) (append_assoc word (octet ∷ []) more))

is_word : (word : List ℕ) → 0 < length word → as_word word ≡ word ∷ []
is_word [] some = absurd (omega arith)
is_word (octet ∷ word) some = refl

-- A blank or the end of the text ends it.
ends : (word sep rest : List ℕ) → 0 < length word → IsAsciiSeparator sep rest → words_after word (sep ++ rest) ≡ word ∷ words_after [] rest
ends word [] [] some h = is_word word some
ends word [] (octet ∷ rest) some h = absurd (omega (arith, h.2 refl))
ends word (octet ∷ []) rest some h =
    cond-true (is_ascii_whitespace octet) (as_word word ++ words_after [] rest) (words_after (word ++ octet ∷ []) rest) (All-head IsBlank octet [] h.0)
    ∙ ap (λ w. w ++ words_after [] rest) (is_word word some)
ends word (octet ∷ other ∷ sep) rest some h = absurd (omega (arith, h.1))

-- The iterator takes the first word, or there is none.
module _ (text rest : List ℕ) where
  abbrev Takes : Option (Bor (List ℕ)) → Type 0
  Takes word = CutsAsciiWord text word rest (λ gap x sep. gap ++ (x ++ (sep ++ rest)))

  pub no_word : Takes None → words_of text ≡ []
  unfolding words_of
  no_word h = ap (λ t. words_after [] t) (sym (append-nil text)) ∙ blanks text [] h.0

  pub first_word : (word : Bor (List ℕ)) → Takes (Some word) → words_of text ≡ word.now ∷ words_of rest
  unfolding words_of
  first_word word (some, none, fits, (gap, sep, parts, blank, separated)) =
      ap (λ t. words_after [] t) parts
      ∙ (blanks gap (word.now ++ (sep ++ rest)) blank
      ∙ (goes_on [] word.now (sep ++ rest) (visible word.now none)
      ∙ ends word.now sep rest some separated))
