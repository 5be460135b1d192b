-- Blanks in the fields of a line.
use Rattle.std.proofs.Common.{◌≡◌, ◌<◌, ◌+◌, ◌/◌, ℕ, Bool, true, false, cond, not, List, [], ◌∷◌, ◌==◌, ◌||◌, length, codes, nat_eq, nat_lt, Some, None, Result, Ok, Err, refl, subst, arith, eqb-true}
use Rattle.std.proofs.lemmas.Bool.{false≢true}
use Rattle.std.specs.Prelude.{IsOk}
use Rattle.std.specs.List.{AllPass, prefix_len}
use Rattle.std.specs.Cmp.Lexicographic.{pointwise}
use Rattle.std.proofs.lemmas.List.Elements.{All-head, All-tail}
use Rattle.std.proofs.lemmas.Option.{none-some}
use Rattle.std.proofs.lemmas.Slice.Eq.{bytes_eq-Decides}
use Rattle.hex.specs.Hex.{decode_sized, is_hex_digit}
use Rattle.hex.specs.declared.error.FromHexError.{FromHexError}
use Rattle.hex.proofs.HexLemmas.{IsOk-decode_sized}
use Rattle.babel_text.specs.Octets.{hex_octets, octets_or_none}
use Rattle.babel_text.specs.Fields.{HasBlank}

-- A digit isn't a blank.
not_blank : (octet : ℕ) → is_hex_digit octet ≡ true → (octet == 32) ≡ false
not_blank octet digit = by (octet == 32) refl
  where
    by : (b : Bool) → (octet == 32) ≡ b → b ≡ false
    by false is = refl
    by true is = absurd (false≢true (subst (λ o. is_hex_digit o ≡ true) (eqb-true octet 32 is) digit))

digits_have_no_blank : (text : List ℕ) → AllPass is_hex_digit text → ¬ (HasBlank text)
digits_have_no_blank [] digits blank = omega arith
digits_have_no_blank (x ∷ xs) digits blank =
    let rest = digits_have_no_blank xs (All-tail (λ c. is_hex_digit c ≡ true) x xs digits) in
    let here = not_blank x (All-head (λ c. is_hex_digit c ≡ true) x xs digits) in
    let more : 1 + prefix_len (λ o. not (o == 32)) xs < length (x ∷ xs) = subst (λ b. cond (not b) (1 + prefix_len (λ o. not (o == 32)) xs) 0 < length (x ∷ xs)) here blank in
    rest (omega (arith, more))

pub was_ok : (read : Result (List ℕ) FromHexError) (octets : List ℕ) → octets_or_none read ≡ Some octets → IsOk read
was_ok (Ok value) octets is = refl
was_ok (Err fault) octets is = absurd (none-some octets is)

-- The text `-` has none.
dash_has_no_blank : (text : List ℕ) → pointwise nat_eq text (codes "-") ≡ true → ¬ (HasBlank text)
dash_has_no_blank text is blank =
    let dash : HasBlank (codes "-") = subst (λ l. HasBlank l) ((bytes_eq-Decides text (codes "-")).0 is) blank in
    omega arith

-- A text that is read as octets has none.
pub octets_have_no_blank : (room : ℕ) (text octets : List ℕ) → hex_octets room text ≡ Some octets → ¬ (HasBlank text)
octets_have_no_blank room text octets = by (pointwise nat_eq text (codes "-")) refl (length text / 2 == 0 || nat_lt room (length text / 2))
  where
    by : (dash : Bool) → pointwise nat_eq text (codes "-") ≡ dash → (refused : Bool) → cond dash (Some []) (cond refused None (octets_or_none (decode_sized text (length text / 2)))) ≡ Some octets → ¬ (HasBlank text)
    by true dash refused is = dash_has_no_blank text dash
    by false dash true is = absurd (none-some octets is)
    by false dash false is = digits_have_no_blank text (((IsOk-decode_sized text (length text / 2)).0 (was_ok (decode_sized text (length text / 2)) octets is)).1)
