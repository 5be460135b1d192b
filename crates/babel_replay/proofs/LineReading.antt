-- The lines of octets, a part after another.
use Rattle.std.proofs.Common.{◌≡◌, ◌≢◌, ◌<◌, ◌≤◌, ◌+◌, ℕ, Bool, true, not, nat_eq, true≢false, List, [], ◌∷◌, ◌++◌, length, take, drop, get_or, Option, None, Some, IfSome, cond, refl, sym, ap, subst, ◌∙◌, arith, le_refl, eq-eqb, eqb-true, ne_eqb, append_assoc, append-nil, length-append, length-take-le, get_or-take, take-take}
use Rattle.std.proofs.lemmas.List.{take_more}
use Rattle.std.proofs.lemmas.List.Elements.{All-head, All-tail, All-append, All-from_get_or}
use Rattle.std.specs.Option.{unwrap_or, is_some}
use Rattle.memchr.specs.Find.{IsFirstByte, Nowhere, Passes, is_byte}
use Rattle.std.specs.Io.{StartsWith}
use Rattle.std.specs.Io.KnownBytes.{Consumes, IsAtEnd}
use Rattle.std.proofs.KnownBytes.{starts_with_rest}
use Rattle.babel_replay.specs.Reading.{lines_of, join_first, first_of, IsTooLong, ReadsLine, HasNoLineFeed, AppendsPart, ShowsTooMuch}

other : (x : ℕ) (xs : List ℕ) → HasNoLineFeed (x ∷ xs) → (rest : List ℕ) → lines_of (x ∷ rest) ≡ join_first x (lines_of rest)
other x xs plain rest = ap (λ b. cond b ([] ∷ lines_of rest) (join_first x (lines_of rest))) (ne_eqb x 10 (All-head (λ y. y ≢ 10) x xs plain))

next : (x : ℕ) (xs : List ℕ) → HasNoLineFeed (x ∷ xs) → HasNoLineFeed xs
next x xs plain = All-tail (λ y. y ≢ 10) x xs plain

-- Octets without a line feed, and then one, are a line.
pub lines_of-line : (line rest : List ℕ) → HasNoLineFeed line → lines_of (line ++ 10 ∷ rest) ≡ line ∷ lines_of rest
lines_of-line [] rest plain = refl
lines_of-line (x ∷ xs) rest plain = other x xs plain (xs ++ 10 ∷ rest) ∙ ap (join_first x) (lines_of-line xs rest (next x xs plain))

-- So are they at the end of the log.
pub lines_of-last : (x : ℕ) (xs : List ℕ) → HasNoLineFeed (x ∷ xs) → lines_of (x ∷ xs) ≡ (x ∷ xs) ∷ []
lines_of-last x [] plain = other x [] plain []
lines_of-last x (y ∷ ys) plain = other x (y ∷ ys) plain (y ∷ ys) ∙ ap (join_first x) (lines_of-last y ys (next x (y ∷ ys) plain))

first_of-join : (x : ℕ) (lines : List (List ℕ)) → first_of (join_first x lines) ≡ x ∷ first_of lines
first_of-join x [] = refl
first_of-join x (line ∷ lines) = refl

-- The first line begins with them.
pub length-first_of : (line rest : List ℕ) → HasNoLineFeed line → length line ≤ length (first_of (lines_of (line ++ rest)))
length-first_of [] rest plain = omega arith
length-first_of (x ∷ xs) rest plain =
    let later = length-first_of xs rest (next x xs plain) in
    omega (arith, later, ap (λ l. length (first_of l)) (other x xs plain (xs ++ rest)), ap length (first_of-join x (lines_of (xs ++ rest))))

-- ---- a part after the octets that were read before

joined : (line part : List ℕ) → HasNoLineFeed line → HasNoLineFeed part → HasNoLineFeed (line ++ part)
joined line part = All-append (λ y. y ≢ 10) line part

pub ReadsLine-last : (a b c : Option (List ℕ)) (line after : List ℕ) → Consumes a b line → HasNoLineFeed line → AppendsPart b c line after (10 ∷ []) → ReadsLine a c true after
ReadsLine-last None b c line after p plain m = tt
ReadsLine-last (Some x) None c line after p plain m = absurd p
ReadsLine-last (Some x) (Some y) None line after p plain m = absurd m.taken
ReadsLine-last (Some x) (Some y) (Some z) line after p plain m =
    let tail : y ≡ m.part ++ 10 ∷ z = m.taken ∙ append_assoc m.part (10 ∷ []) z in
    let whole : x ≡ after ++ 10 ∷ z = p ∙ ap (λ l. line ++ l) tail ∙ sym (append_assoc line m.part (10 ∷ z)) ∙ ap (λ l. l ++ 10 ∷ z) (sym m.appended) in
    ap lines_of whole ∙ lines_of-line after z (subst HasNoLineFeed (sym m.appended) (joined line m.part plain m.plain))

pub ReadsLine-end : (a b c : Option (List ℕ)) (line : List ℕ) (empty : Bool) → empty ≡ nat_eq (length line) 0 → Consumes a b line → HasNoLineFeed line
    → Consumes b c [] → IsAtEnd b → ReadsLine a c (not empty) line
ReadsLine-end None b c line empty is p plain q end = tt
ReadsLine-end (Some x) None c line empty is p plain q end = absurd p
ReadsLine-end (Some x) (Some y) None line empty is p plain q end = absurd q
ReadsLine-end (Some x) (Some y) (Some z) line empty is p plain q end = ap lines_of (p ∙ ap (λ l. line ++ l) end ∙ append-nil line) ∙ at line plain is
  where
    at : (line : List ℕ) → HasNoLineFeed line → empty ≡ nat_eq (length line) 0 → lines_of line ≡ cond (not empty) (line ∷ lines_of z) []
    at [] plain is = ap (λ b. cond (not b) ([] ∷ lines_of z) []) (sym is)
    at (x ∷ xs) plain is =
        lines_of-last x xs plain ∙ ap (λ l. (x ∷ xs) ∷ lines_of l) (sym (sym q ∙ end))
        ∙ ap (λ b. cond (not b) ((x ∷ xs) ∷ lines_of z) []) (sym (is ∙ ne_eqb (length (x ∷ xs)) 0 (λ e. omega (arith, e))))

pub IsTooLong-first : (a b : Option (List ℕ)) (line : List ℕ) → Consumes a b line → HasNoLineFeed line → ShowsTooMuch b line
    → IfSome a (λ octets. IsTooLong (first_of (lines_of octets)))
IsTooLong-first None b line p plain m = tt
IsTooLong-first (Some x) None line p plain m = absurd p
IsTooLong-first (Some x) (Some y) line p plain m =
    let whole : x ≡ (line ++ m.part) ++ drop (length m.part) y = p ∙ ap (λ l. line ++ l) (starts_with_rest y m.part m.front) ∙ sym (append_assoc line m.part (drop (length m.part) y)) in
    subst (λ octets. IsTooLong (first_of (lines_of octets))) (sym whole)
    (omega (arith, length-first_of (line ++ m.part) (drop (length m.part) y) (joined line m.part plain m.plain), length-append line m.part, m.long))

-- ---- the line feed that a search finds

plain_front : (shown : List ℕ) (n : ℕ) → n ≤ length shown → Nowhere (Passes (is_byte 10) shown) 0 n → HasNoLineFeed (take n shown)
plain_front shown n within none =
    let long = length-take-le n shown within in
    All-from_get_or (λ y. y ≢ 10) (take n shown) 0 (λ i lt.
    let low : i < n = omega (arith, long, lt) in
    λ e. none i (omega arith) low (eq-eqb (get_or shown i 0) 10 (sym (get_or-take n shown i 0 low) ∙ e)))

module _ (shown : List ℕ) (n : ℕ) where
  -- What is before it, or all, has none.
  pub found_plain : (found : Option ℕ) → IsFirstByte (is_byte 10) shown found → n ≡ unwrap_or found (length shown) → (n ≤ length shown) × HasNoLineFeed (take n shown)
  found_plain None none is = rw is (le_refl _, plain_front shown (length shown) (le_refl _) none)
  found_plain (Some k) (within, here) is = rw is (omega (arith, within.high), plain_front shown k (omega (arith, within.high)) within.before)

  pub found_feed : (found : Option ℕ) → IsFirstByte (is_byte 10) shown found → n ≡ unwrap_or found (length shown) → is_some found ≡ true
      → (n < length shown) × (take (n + 1) shown ≡ take n shown ++ 10 ∷ [])
  found_feed None none is some = absurd (true≢false (sym some))
  found_feed (Some k) (within, here) is some =
      rw is (within.high, take_more shown k 0 within.high ∙ ap (λ y. take k shown ++ y ∷ []) (eqb-true (get_or shown k 0) 10 here))

-- A front of what is shown is a front of the octets.
pub StartsWith-take : (left : Option (List ℕ)) (shown : List ℕ) (n : ℕ) → n ≤ length shown → IfSome left (λ octets. StartsWith octets shown)
    → IfSome left (λ octets. StartsWith octets (take n shown))
StartsWith-take None shown n within front = tt
StartsWith-take (Some x) shown n within front =
    ap (λ k. take k x) (length-take-le n shown within) ∙ sym (take-take n (length shown) x within) ∙ ap (take n) front
