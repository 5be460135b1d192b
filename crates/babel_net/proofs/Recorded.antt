-- The record of what was sent: more octets leave each datagram as it was.
use Rattle.std.proofs.Common.{◌≡◌, ◌≤◌, ◌+◌, ◌-◌, ℕ, List, [], ◌∷◌, ◌++◌, All, length, map, slice_range, take, drop, refl, ap, ◌∙◌, arith}
use Rattle.std.proofs.lemmas.List.{take-append-le, drop-append-le, length-drop, map-append}
use Rattle.std.proofs.lemmas.List.Elements.{All-head, All-tail}
use Rattle.std.proofs.Math.Seq.{drop-append_seam, take-length}
use Rattle.babel_value.specs.declared.addresses.Addr.{Addr}
use Rattle.babel_net.specs.declared.sent.Place.{Place}
use Rattle.babel_net.specs.Networks.{SentOctets}
use Rattle.babel_net.specs.Recording.{IsWithin, datagram_in}

range_kept : (a b : ℕ) (xs ys : List ℕ) → a ≤ b → b ≤ length xs → slice_range (xs ++ ys) a b ≡ slice_range xs a b
range_kept a b xs ys ordered within =
    let start : a ≤ length xs = omega (arith, ordered, within) in
    let here : b - a ≤ length (drop a xs) = omega (arith, length-drop a xs, ordered, within) in
    ap (take (b - a)) (drop-append-le a xs ys start) ∙ take-append-le (b - a) (drop a xs) ys here

abbrev with_octets : Place → List ℕ → SentOctets
with_octets p octets = record { node = p.node; source = p.source; octets = octets }

datagram_kept : (xs ys : List ℕ) (p : Place) → IsWithin (length xs) p → datagram_in (xs ++ ys) p ≡ datagram_in xs p
datagram_kept xs ys p is = ap (with_octets p) (range_kept p.start p.end xs ys is.ordered is.within)

datagrams_kept : (xs ys : List ℕ) (ps : List Place) → All (IsWithin (length xs)) ps → map (datagram_in (xs ++ ys)) ps ≡ map (datagram_in xs) ps
datagrams_kept xs ys [] all = refl
datagrams_kept xs ys (p ∷ ps) all =
    ap (λ (d : SentOctets). d ∷ map (datagram_in (xs ++ ys)) ps) (datagram_kept xs ys p (All-head (IsWithin (length xs)) p ps all))
    ∙ ap (λ (ds : List SentOctets). datagram_in xs p ∷ ds) (datagrams_kept xs ys ps (All-tail (IsWithin (length xs)) p ps all))

-- where the octets of a datagram are that are added after these
abbrev pub place_after : ℕ → Addr → List ℕ → List ℕ → Place
place_after node source xs ys = record { node = node; source = source; start = length xs; end = length xs + length ys }

range_added : (xs ys : List ℕ) → slice_range (xs ++ ys) (length xs) (length xs + length ys) ≡ ys
range_added xs ys =
    let n : length xs + length ys - length xs ≡ length ys = omega arith in
    ap (take (length xs + length ys - length xs)) (drop-append_seam xs ys) ∙ ap (λ (k : ℕ). take k ys) n ∙ take-length ys

pub datagram_added : (xs ys : List ℕ) (ps : List Place) (node : ℕ) (source : Addr) → All (IsWithin (length xs)) ps → map (datagram_in (xs ++ ys)) (ps ++ place_after node source xs ys ∷ []) ≡ map (datagram_in xs) ps ++ (record { node = node; source = source; octets = ys }) ∷ []
datagram_added xs ys ps node source all =
    map-append (datagram_in (xs ++ ys)) ps (place_after node source xs ys ∷ [])
    ∙ ap (λ (ds : List SentOctets). ds ++ datagram_in (xs ++ ys) (place_after node source xs ys) ∷ []) (datagrams_kept xs ys ps all)
    ∙ ap (λ (octets : List ℕ). map (datagram_in xs) ps ++ with_octets (place_after node source xs ys) octets ∷ []) (range_added xs ys)

-- the record after one more datagram, whose octets are these
pub recorded_next : (xs xs' os ys zs : List ℕ) (ps ps' qs : List Place) (node : ℕ) (source : Addr) (old : List SentOctets) → All (IsWithin (length xs)) ps → map (datagram_in xs) ps ≡ old → ps' ≡ ps → xs' ≡ xs → qs ≡ ps' ++ place_after node source xs' ys ∷ [] → os ≡ xs' ++ ys → ys ≡ zs → map (datagram_in os) qs ≡ old ++ (record { node = node; source = source; octets = zs }) ∷ []
recorded_next xs xs' os ys zs ps ps' qs node source old all seen ps_kept xs_kept places octets same =
    ap (λ (o : List ℕ). map (datagram_in o) qs) octets ∙ ap (map (datagram_in (xs' ++ ys))) places
    ∙ ap (λ (x : List ℕ). map (datagram_in (x ++ ys)) (ps' ++ place_after node source x ys ∷ [])) xs_kept
    ∙ ap (λ (p : List Place). map (datagram_in (xs ++ ys)) (p ++ place_after node source xs ys ∷ [])) ps_kept
    ∙ datagram_added xs ys ps node source all
    ∙ ap (λ (l : List SentOctets). l ++ with_octets (place_after node source xs ys) ys ∷ []) seen
    ∙ ap (λ (z : List ℕ). old ++ with_octets (place_after node source xs ys) z ∷ []) same
