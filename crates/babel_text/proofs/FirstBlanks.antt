-- The first blank of a text, by the octets before it.
use Rattle.std.proofs.Common.{◌≡◌, ℕ, ◌<◌, ◌≤◌, ◌+◌, ◌==◌, false, true, List, take, drop, length, get_or, ap, sym, ◌∙◌, arith, inl, inr}
use Rattle.std.specs.List.{position_or_len}
use Rattle.std.proofs.lemmas.Bool.{both_ways, cases_lt}
use Rattle.std.proofs.lemmas.List.Sums.{position_or_len_is, passes_at_first}
use Rattle.babel_text.specs.Fields.{HasBlank, before_blank, after_blank}

pub first_blank : (text : List ℕ) (i : ℕ) → i ≤ length text → ((k : ℕ) → k < i → (get_or text k 0 == 32) ≡ false) → (i < length text → (get_or text i 0 == 32) ≡ true) → position_or_len (λ octet. octet == 32) text ≡ i
first_blank text i within before here = position_or_len_is (λ octet. octet == 32) text i 0 within before here

pub no_blank : (text : List ℕ) → ((k : ℕ) → k < length text → (get_or text k 0 == 32) ≡ false) → ¬ (HasBlank text)
no_blank text none blank =
    let is = first_blank text (length text) (omega arith) none (λ less. absurd (omega arith)) in
    omega (arith, is, blank)

pub parted : (text after : List ℕ) (i : ℕ) → i < length text → position_or_len (λ octet. octet == 32) text ≡ i → after ≡ drop (i + 1) text →
    HasBlank text × (take i text ≡ before_blank text) × (after ≡ after_blank text)
parted text after i within is rest =
    (omega (arith, is), ap (λ n. take n text) (sym is), rest ∙ ap (λ n. drop (n + 1) text) (sym is))

-- It comes after octets that are no blanks.
pub blank_follows : (text : List ℕ) (i : ℕ) → ((k : ℕ) → k < i → (get_or text k 0 == 32) ≡ false) → HasBlank text → i ≤ position_or_len (λ octet. octet == 32) text
blank_follows text i none blank =
    let p = position_or_len (λ octet. octet == 32) text in
    elim (cases_lt p i) [
      | inl less ↦ absurd (both_ways (get_or text p 0 == 32) (none p less) (passes_at_first (λ octet. octet == 32) text 0 blank))
      | inr not_less ↦ omega arith
    ]
