-- Octets that are put together of the default prefix, the payload and zeros.
use Rattle.std.proofs.Common.{◌≡◌, ℕ, zero, suc, ◌<◌, ◌≤◌, ◌+◌, ◌-◌, min, Bool, true, false, List, ◌++◌, length, map, take, drop, get_or, replicate, nat_lt, refl, ap, ◌∙◌, arith, length-drop, length-append}
use Rattle.std.specs.List.{range_with_len}
use Rattle.std.proofs.lemmas.List.{get_or_append_left, get_or-append_right, get_or-take, get_or-drop, length-take-le, length-replicate}
use Rattle.std.proofs.lemmas.List.FromFn.{fill_by_all}
use Rattle.std.proofs.lemmas.Bool.{ltb-true, ltb-false}
use Rattle.babel_packet.specs.Prefixes.{prefix_octet, octets_of}

-- One that is kept.
kept_octet : (default rest : List ℕ) (kept k : ℕ) → kept ≤ length default → k < kept → get_or (take kept default ++ rest) k 0 ≡ get_or default k 0
kept_octet default rest kept k long less =
    get_or_append_left (take kept default) rest 0 k (omega (arith, length-take-le kept default long)) ∙ get_or-take kept default k 0 less

-- One after those.
later_octet : (default rest : List ℕ) (kept k : ℕ) → kept ≤ length default → kept ≤ k → get_or (take kept default ++ rest) k 0 ≡ get_or rest (k - kept) 0
later_octet default rest kept k long le = get_or-append_right (take kept default) rest kept k 0 (length-take-le kept default long) le

-- One that is written.
written_octet : (payload zeros : List ℕ) (at n i : ℕ) → at + n ≤ length payload → i < n → get_or (take n (drop at payload) ++ zeros) i 0 ≡ get_or payload (at + i) 0
written_octet payload zeros at n i long less =
    get_or_append_left (take n (drop at payload)) zeros 0 i (omega (arith, length-take-le n (drop at payload) (omega (arith, length-drop at payload))))
    ∙ get_or-take n (drop at payload) i 0 less ∙ get_or-drop at payload i 0

none_but_zeros : (n i : ℕ) → ◌≡◌ {A = ℕ} (get_or (replicate n 0) i 0) 0
none_but_zeros zero i = refl
none_but_zeros (suc n) zero = refl
none_but_zeros (suc n) (suc i) = none_but_zeros n i

-- One after all of them.
later_zero : (payload : List ℕ) (at n m size i : ℕ) → at + n ≤ length payload → n ≤ i → get_or (take n (drop at payload) ++ drop m (replicate size 0)) i 0 ≡ 0
later_zero payload at n m size i long le =
    get_or-append_right (take n (drop at payload)) (drop m (replicate size 0)) n i 0 (length-take-le n (drop at payload) (omega (arith, length-drop at payload))) le
    ∙ get_or-drop m (replicate size 0) (i - n) 0 ∙ none_but_zeros size (m + (i - n))

-- `kept` is the lesser of the two numbers.
pub record IsLesser (kept omitted full : ℕ) : Type 0 where
  pub few : omitted ≤ full → kept ≡ omitted
  pub many : full ≤ omitted → kept ≡ full

pub spread_octet : (default payload : List ℕ) (omitted bits at kept m size k : ℕ) → IsLesser kept omitted (octets_of bits) →
    kept ≤ length default → at + (octets_of bits - omitted) ≤ length payload →
    get_or (take kept default ++ (take (octets_of bits - kept) (drop at payload) ++ drop m (replicate size 0))) k 0 ≡ prefix_octet default omitted bits at payload k
spread_octet default payload omitted bits at kept m size k lesser few there =
    by (nat_lt k (octets_of bits)) (nat_lt k omitted) (nat_lt full omitted) refl refl refl
  where
    full : ℕ
    full = octets_of bits

    rest : List ℕ
    rest = take (full - kept) (drop at payload) ++ drop m (replicate size 0)

    by : (a b c : Bool) → nat_lt k full ≡ a → nat_lt k omitted ≡ b → nat_lt full omitted ≡ c → get_or (take kept default ++ rest) k 0 ≡ prefix_octet default omitted bits at payload k
    by true true true ha hb hc =
        let high : full < omitted = ltb-true full omitted hc in
        let same = lesser.many (omega arith) in
        rw (ha, hb) (kept_octet default rest kept k few (omega (arith, ltb-true k full ha)))
    by true true false ha hb hc =
        let low : omitted ≤ full = ltb-false full omitted hc in
        let same = lesser.few low in
        rw (ha, hb) (kept_octet default rest kept k few (omega (arith, ltb-true k omitted hb)))
    by true false true ha hb hc = absurd (omega (arith, ltb-true k full ha, ltb-false k omitted hb, ltb-true full omitted hc))
    by true false false ha hb hc =
        let low : omitted ≤ full = ltb-false full omitted hc in
        let same = lesser.few low in
        let index : at + (k - kept) ≡ at + k - omitted = omega (arith, ltb-false k omitted hb) in
        rw (ha, hb) (
        later_octet default rest kept k few (omega (arith, ltb-false k omitted hb))
        ∙ written_octet payload (drop m (replicate size 0)) at (full - kept) (k - kept) (omega arith) (omega (arith, ltb-true k full ha, ltb-false k omitted hb))
        ∙ ap (λ i. get_or payload i 0) index)
    by false b true ha hb hc =
        let high : full < omitted = ltb-true full omitted hc in
        let same = lesser.many (omega arith) in
        rw ha (
        later_octet default rest kept k few (omega (arith, ltb-false k full ha))
        ∙ later_zero payload at (full - kept) m size (k - kept) (omega arith) (omega (arith, ltb-false k full ha)))
    by false b false ha hb hc =
        let low : omitted ≤ full = ltb-false full omitted hc in
        let same = lesser.few low in
        rw ha (
        later_octet default rest kept k few (omega (arith, ltb-false k full ha))
        ∙ later_zero payload at (full - kept) m size (k - kept) (omega arith) (omega (arith, ltb-false k full ha)))

lesser : (omitted full : ℕ) → IsLesser (min omitted full) omitted full
lesser omitted full = record { few = λ le. omega arith; many = λ le. omega arith }

spread_length : (default payload zeros : List ℕ) (kept at n : ℕ) → kept ≤ length default → at + n ≤ length payload → kept + n ≤ length zeros →
    length (take kept default ++ (take n (drop at payload) ++ drop (kept + n) zeros)) ≡ length zeros
spread_length default payload zeros kept at n long there room =
    omega (
      arith,
      length-append (take kept default) (take n (drop at payload) ++ drop (kept + n) zeros),
      length-append (take n (drop at payload)) (drop (kept + n) zeros),
      length-take-le kept default long,
      length-take-le n (drop at payload) (omega (arith, length-drop at payload)),
      length-drop (kept + n) zeros,
    )

-- What is put together has each octet of the prefix.
pub spread_octets : (default payload octets : List ℕ) (omitted bits at kept n m size : ℕ) → kept ≡ min omitted (octets_of bits) → n ≡ octets_of bits - kept → m ≡ kept + n →
    kept ≤ length default → octets_of bits ≤ size → at + (octets_of bits - omitted) ≤ length payload →
    octets ≡ take kept default ++ (take n (drop at payload) ++ drop m (replicate size 0)) →
    octets ≡ map (prefix_octet default omitted bits at payload) (range_with_len 0 size)
spread_octets default payload octets omitted bits at kept n m size least rest after few fits there together =
    let long : at + n ≤ length payload = omega arith in
    let room : kept + n ≤ length (replicate {A = ℕ} size 0) = omega (arith, length-replicate {A = ℕ} size 0) in
    let whole : length octets ≡ size = rw (together, after) (spread_length default payload (replicate size 0) kept at n few long room ∙ length-replicate {A = ℕ} size 0) in
    let is_lesser : IsLesser kept omitted (octets_of bits) = rw least (lesser omitted (octets_of bits)) in
    fill_by_all (prefix_octet default omitted bits at payload) octets size 0 whole
    (λ k h. rw (together, rest) (spread_octet default payload omitted bits at kept m size k is_lesser few there))
