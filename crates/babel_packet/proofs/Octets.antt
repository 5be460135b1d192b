-- Parts of octets are octets, and how many they are.
use Rattle.std.proofs.Common.{◌≡◌, ℕ, zero, suc, ◌+◌, ◌-◌, ◌%◌, ◌^◌, ◌<◌, ◌≤◌, Bool, true, false, List, [], ◌∷◌, ◌++◌, length, drop, map, replicate, refl, ap, ◌∙◌, arith, if◌then◌else◌, nat_lt, length-drop}
use Rattle.std.specs.List.{slice_range, range_with_len}
use Rattle.std.proofs.lemmas.List.{length-take-le, length-map}
use Rattle.std.proofs.lemmas.List.FromFn.{length-range_with_len}
use Rattle.babel_value.specs.Prefixes.{cleared}
use Rattle.babel_value.proofs.PrefixLaws.{cleared-cleared}
use Rattle.babel_value.proofs.OctetLists.{take_octets, drop_octets}
use Rattle.babel_packet.specs.Numbers.{octet, word}
use Rattle.babel_packet.specs.Prefixes.{octets_of, prefix_octet, prefix_octets}
use Rattle.babel_packet.specs.Encodable.{AreOctets}

-- what holds of both branches holds of the choice
pub by_if : {A : Type 0} (P : A → Type 0) (b : Bool) (x y : A) → (b ≡ true → P x) → (b ≡ false → P y) → P (if b then x else y)
by_if P true x y f g = f refl
by_if P false x y f g = g refl

pub slice_octets : (p : List ℕ) (a b : ℕ) → AreOctets p → AreOctets (slice_range p a b)
slice_octets p a b small = take_octets (b - a) (drop a p) (drop_octets a p small)

pub append_octets : (xs ys : List ℕ) → AreOctets xs → AreOctets ys → AreOctets (xs ++ ys)
append_octets [] ys small rest k = rest k
append_octets (x ∷ xs) ys small rest zero = small 0
append_octets (x ∷ xs) ys small rest (suc k) = append_octets xs ys (λ j. small (suc j)) rest k

pub replicate_octets : (n : ℕ) → AreOctets (replicate n 0)
replicate_octets zero k = omega arith
replicate_octets (suc n) zero = omega arith
replicate_octets (suc n) (suc k) = replicate_octets n k

smaller : (x y : ℕ) → x < 256 → x - y < 256
smaller x y small = omega arith

pub cleared_octets : (bits : ℕ) (xs : List ℕ) → AreOctets xs → AreOctets (cleared bits xs)
cleared_octets bits [] small k = small k
cleared_octets bits (x ∷ xs) small zero = smaller x (x % 2 ^ (8 - bits)) (small 0)
cleared_octets bits (x ∷ xs) small (suc k) = cleared_octets (bits - 8) xs (λ j. small (suc j)) k

pub length-cleared : (bits : ℕ) (xs : List ℕ) → length (cleared bits xs) ≡ length xs
length-cleared bits [] = refl
length-cleared bits (x ∷ xs) = ap suc (length-cleared (bits - 8) xs)

map_octets : (f : ℕ → ℕ) (xs : List ℕ) → ((j : ℕ) → f j < 256) → AreOctets (map f xs)
map_octets f [] small k = omega arith
map_octets f (x ∷ xs) small zero = small x
map_octets f (x ∷ xs) small (suc k) = map_octets f xs small k

prefix_octet_small : (default : List ℕ) (omitted bits at : ℕ) (p : List ℕ) (j : ℕ) → AreOctets default → AreOctets p → prefix_octet default omitted bits at p j < 256
prefix_octet_small default omitted bits at p j small octets =
    let zero_small : 0 < 256 = omega arith in
    by_if (λ n. n < 256) (nat_lt j (octets_of bits)) (if nat_lt j omitted then octet default j else octet p (at + j - omitted)) 0
    (λ _. by_if (λ n. n < 256) (nat_lt j omitted) (octet default j) (octet p (at + j - omitted)) (λ _. small j) (λ _. octets (at + j - omitted)))
    (λ _. zero_small)

-- this many octets
pub record Octets (size : ℕ) (o : List ℕ) : Type 0 where
  pub long : length o ≡ size
  pub small : AreOctets o

pub slice_is : (p : List ℕ) (a b size : ℕ) → AreOctets p → b ≤ length p → b ≡ a + size → Octets size (slice_range p a b)
slice_is p a b size small there here = record {
  long = length-take-le (b - a) (drop a p) (omega (arith, length-drop a p)) ∙ omega arith;
  small = slice_octets p a b small;
}

-- the octets of a prefix's address: there are as many as the family has, and the bits past the length are clear
pub record Cleared (size bits : ℕ) (o : List ℕ) : Type 0 where
  pub octets : Octets size o
  pub clear : cleared bits o ≡ o

pub prefix_is : (size : ℕ) (default : List ℕ) (omitted bits at : ℕ) (p : List ℕ) → AreOctets default → AreOctets p →
    Cleared size bits (prefix_octets size default omitted bits at p)
unfolding prefix_octets
prefix_is size default omitted bits at p small octets =
    let f = prefix_octet default omitted bits at p in
    let spread = map f (range_with_len 0 size) in record {
      octets = record {
        long = length-cleared bits spread ∙ length-map (range_with_len 0 size) f ∙ length-range_with_len 0 size;
        small = cleared_octets bits spread (map_octets f (range_with_len 0 size) (λ j. prefix_octet_small default omitted bits at p j small octets));
      };
      clear = cleared-cleared bits spread;
    }

pub word_small : (p : List ℕ) (at : ℕ) → AreOctets p → word p at < 65536
unfolding word
word_small p at small = omega (arith, small at, small (at + 1))
