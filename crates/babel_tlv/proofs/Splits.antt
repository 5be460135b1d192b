-- The list that spells octets and the fault are those that are found.
use Rattle.std.proofs.Common.{◌≡◌, ℕ, ◌+◌, ◌≤◌, ◌<◌, List, [], ◌++◌, length, take, drop, get_or, Some, None, refl, ap, sym, ◌∙◌, subst, arith, length-append}
use Rattle.std.specs.List.{flat_map}
use Rattle.std.proofs.lemmas.List.{append-nil, take-append-drop, take_at, take_all, length-take-le}
use Rattle.babel_tlv.specs.Place.{Place}
use Rattle.babel_tlv.specs.Spelling.{spelling, Spells, IsFault}
use Rattle.babel_tlv.specs.Split.{places_at, places_of, fault_at, fault_of}
use Rattle.babel_tlv.proofs.Found.{left_at, spelled_front, fault_at-is, places_at-IsTlv, places_at-AreInPlace}
use Rattle.babel_tlv.proofs.Spelled.{places_at-all, fault_at-all}

-- octets
abbrev pub AreOctets : List ℕ → Type 0
AreOctets bytes = (k : ℕ) → get_or bytes k 0 < 256

-- the places spell the octets up to the first that is left
front : (bytes : List ℕ) (n : ℕ) → AreOctets bytes → n + length (left_at 0 bytes) ≡ length bytes → Spells (places_of bytes) (take n bytes)
front bytes n octets ends =
    let parts = spelled_front 0 0 bytes (omega arith) in
    let all = flat_map spelling (places_of bytes) in
    let size : length all ≡ n = omega (arith, ap length parts, length-append all (left_at 0 bytes)) in
    record {
      tlvs = places_at-IsTlv 0 bytes octets;
      whole = ap (take n) parts ∙ take_at all (left_at 0 bytes) n size;
      places = places_at-AreInPlace 0 0 0 bytes (omega arith) (omega arith);
    }

-- octets without a fault are spelled by the places
pub spells-places_of : (bytes : List ℕ) → AreOctets bytes → fault_of bytes ≡ None → Spells (places_of bytes) bytes
spells-places_of bytes octets none =
    let left : length (left_at 0 bytes) ≡ 0 = rw none at (fault_at-is (length bytes) 0 0 bytes (omega arith)) in
    subst (Spells (places_of bytes)) (take_all (length bytes) bytes (omega arith)) (front bytes (length bytes) octets (omega arith))

-- no other list spells them
pub places_of-spelled : (ts : List Place) (bytes : List ℕ) → Spells ts bytes → (places_of bytes ≡ ts) × (fault_of bytes ≡ None)
places_of-spelled ts bytes spells =
    let all : bytes ≡ flat_map spelling ts ++ [] = spells.whole ∙ sym (append-nil (flat_map spelling ts)) in
    (ap places_of all ∙ places_at-all 0 ts [] spells.tlvs spells.places ∙ append-nil ts, ap fault_of all ∙ fault_at-all 0 ts [])

-- the fault of octets is not before them
above : (o f : ℕ) (bytes : List ℕ) → fault_at 0 o bytes ≡ Some f → o ≤ f
above o f bytes fault =
    let ends : (f + length (left_at 0 bytes) ≡ o + length bytes) × (0 < length (left_at 0 bytes)) = rw fault at (fault_at-is (o + length bytes) 0 o bytes refl) in
    omega (arith, ap length (spelled_front 0 o bytes (omega arith)), length-append (flat_map spelling (places_at 0 o bytes)) (left_at 0 bytes))

-- no longer front is spelled
longest : (bytes : List ℕ) (f : ℕ) → fault_of bytes ≡ Some f → (ts : List Place) (n : ℕ) → n ≤ length bytes → Spells ts (take n bytes) → n ≤ f
longest bytes f fault ts n within spells =
    let all : bytes ≡ flat_map spelling ts ++ drop n bytes = sym (take-append-drop n bytes) ∙ ap (λ xs. xs ++ drop n bytes) spells.whole in
    let size : n ≡ length (flat_map spelling ts) = sym (length-take-le n bytes within) ∙ ap length spells.whole in
    let following : fault_at 0 (0 + length (flat_map spelling ts)) (drop n bytes) ≡ Some f = sym (fault_at-all 0 ts (drop n bytes)) ∙ sym (ap fault_of all) ∙ fault in
    omega (arith, above (0 + length (flat_map spelling ts)) f (drop n bytes) following)

-- the fault that is found is the one of the definition
pub fault_of-IsFault : (bytes : List ℕ) (f : ℕ) → AreOctets bytes → fault_of bytes ≡ Some f → IsFault bytes f
fault_of-IsFault bytes f octets fault =
    let ends : (f + length (left_at 0 bytes) ≡ length bytes) × (0 < length (left_at 0 bytes)) = rw fault at (fault_at-is (length bytes) 0 0 bytes (omega arith)) in
    record {
      within = omega arith;
      front = (places_of bytes, front bytes f octets ends.0);
      longest = longest bytes f fault;
    }
