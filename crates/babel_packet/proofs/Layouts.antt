-- A prefix that is written into a payload is read from it.
use Rattle.std.proofs.Common.{◌≡◌, ℕ, zero, suc, ◌+◌, ◌-◌, ◌*◌, ◌/◌, ◌%◌, ◌^◌, ◌≤◌, true, false, List, [], ◌∷◌, ◌++◌, length, take, drop, get_or, replicate, nat_lt, refl, ap, sym, ◌∙◌, arith, inl, inr, length-append}
use Rattle.std.proofs.lemmas.Bool.{lt-ltb, le-ltb, le-leb, cases_lt}
use Rattle.std.proofs.lemmas.List.{length-take-le, get_or-take, get_or-append-add, drop_all}
use Rattle.std.proofs.lemmas.List.FromFn.{fill_by_all}
use Rattle.babel_value.specs.Prefixes.{cleared}
use Rattle.babel_packet.specs.Prefixes.{octets_of, prefix_octet, prefix_octets, is_whole}
use Rattle.babel_packet.specs.Encodable.{AreOctets}

pub two_again : (n : ℕ) → 256 * (n / 256) + n % 256 ≡ n
two_again n = omega arith

-- Zeros follow the octets that the length of a prefix reaches into.
pub zeros_following : (bits : ℕ) (o : List ℕ) → AreOctets o → cleared bits o ≡ o → (j : ℕ) → octets_of bits ≤ j → get_or o j 0 ≡ 0
zeros_following bits [] small clear j following = refl
zeros_following bits (x ∷ xs) small clear zero following =
    let none : bits ≡ 0 = omega arith in let first : x - x % 2 ^ (8 - bits) ≡ x = cc in
    let kept : x - x % 2 ^ 8 ≡ x = rw none at first in omega (arith, small 0)
zeros_following bits (x ∷ xs) small clear (suc j) following =
    let rest : cleared (bits - 8) xs ≡ xs = cc in zeros_following (bits - 8) xs (λ k. small (suc k)) rest j (omega arith)

-- the octets of a prefix as they are written: after the fields in front, those that its length reaches into
abbrev pub following : List ℕ → ℕ → List ℕ → List ℕ
following front bits o = front ++ take (octets_of bits) o

octet_again : (default front o : List ℕ) (bits place j : ℕ) → length front ≡ place → (octets_of bits ≤ j → get_or o j 0 ≡ 0) →
    get_or o j 0 ≡ prefix_octet default 0 bits place (following front bits o) j
octet_again default front o bits place j size zeros =
    elim (cases_lt j (octets_of bits)) [
      | inl written ↦
          let here : place + j - 0 ≡ length front + j = omega arith in let none : nat_lt j 0 ≡ false = le-ltb j 0 (omega arith) in
          rw (lt-ltb _ _ written, none, here, get_or-append-add front (take (octets_of bits) o) j 0, get_or-take (octets_of bits) o j 0 written) refl
      | inr past ↦ rw (le-ltb _ _ past) (zeros past)
    ]

-- A prefix that is written is read again.
pub prefix_again : (size bits place : ℕ) (front o : List ℕ) → length front ≡ place → length o ≡ size → AreOctets o → cleared bits o ≡ o →
    prefix_octets size (replicate size 0) 0 bits place (following front bits o) ≡ o
unfolding prefix_octets
prefix_again size bits place front o front_size o_size small clear =
    let f = prefix_octet (replicate size 0) 0 bits place (following front bits o) in
    let same = fill_by_all f o size 0 o_size (λ j _. octet_again (replicate size 0) front o bits place j front_size (zeros_following bits o small clear j)) in
    ap (λ octets. cleared bits octets) (sym same) ∙ clear

written_size : (size bits place : ℕ) (front o : List ℕ) → length front ≡ place → length o ≡ size → bits ≤ 8 * size →
    length (following front bits o) ≡ place + octets_of bits
written_size size bits place front o front_size o_size short =
    length-append front (take (octets_of bits) o) ∙ omega (arith, length-take-le (octets_of bits) o (omega arith))

pub whole_again : (size bits place : ℕ) (front o : List ℕ) → length front ≡ place → length o ≡ size → bits ≤ 8 * size →
    is_whole size 0 bits place (following front bits o) ≡ true
unfolding is_whole
whole_again size bits place front o front_size o_size short =
    let there : place + (octets_of bits - 0) ≤ length (following front bits o) = omega (arith, written_size size bits place front o front_size o_size short) in
    rw (le-leb _ _ short, le-leb _ _ there) refl

-- nothing is left over after it
pub none_following : (size bits place : ℕ) (front o : List ℕ) → length front ≡ place → length o ≡ size → bits ≤ 8 * size → (n : ℕ) → n ≡ place + octets_of bits →
    drop n (following front bits o) ≡ []
none_following size bits place front o front_size o_size short n here =
    drop_all n (following front bits o) (omega (arith, written_size size bits place front o front_size o_size short))
