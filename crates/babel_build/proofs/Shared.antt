-- What the front of a list has in common with another list; the two parts of an Update; what an Update leaves of the state.
use Rattle.std.proofs.Common.{◌≡◌, ℕ, zero, suc, List, [], ◌∷◌, Bool, true, false, cond, Option, Some, None, ◌+◌, ◌++◌, length, take, min, refl, ap, arith, nat_eq, sym, ◌∙◌}
use Rattle.std.proofs.Math.Nat.{zero-min, min-zero}
use Rattle.std.proofs.Math.Seq.{take-nil}
use Rattle.babel_value.specs.declared.addresses.Addr.{Addr}
use Rattle.babel_value.specs.declared.addresses.Addr.TheVariants.{V4, V6}
use Rattle.babel_tlv.specs.Spelling.{spelled}
use Rattle.babel_message.specs.Layout as layout
use Rattle.babel_packet.specs.declared.parser_state.ParserState.{ParserState}
use Rattle.babel_packet.specs.Payloads.{octets}
use Rattle.babel_packet.specs.BodyMeanings.{hop_for}
use Rattle.babel_packet.specs.Compressed.{common, omitted, update_fields, is_set, with_hop, with_router}
use Rattle.babel_packet.proofs.CompressedMessages.{is_set_before}

one_more : (same : Bool) (n a b : ℕ) → min a n ≡ b → min (cond same (suc a) 0) (suc n) ≡ cond same (suc b) 0
one_more true n a b is = omega (arith, is)
one_more false n a b is = zero-min (suc n)

common_in_front : (n : ℕ) (xs ys : List ℕ) → min (common xs ys) n ≡ common (take n xs) ys
common_in_front n [] ys = zero-min n ∙ ap (λ zs. common zs ys) (sym (take-nil n))
common_in_front zero (x ∷ xs) ys = min-zero (common (x ∷ xs) ys)
common_in_front (suc n) (x ∷ xs) [] = zero-min (suc n)
common_in_front (suc n) (x ∷ xs) (y ∷ ys) = one_more (nat_eq x y) n (common xs ys) (common (take n xs) ys) (common_in_front n xs ys)

pub omitted_in_front : (default : Option (List ℕ)) (n : ℕ) (xs : List ℕ) → min (omitted default xs) n ≡ omitted default (take n xs)
omitted_in_front None n xs = zero-min n
omitted_in_front (Some ys) n xs = common_in_front n xs ys

front : (n : ℕ) (xs : List ℕ) → take (length (take n xs)) xs ≡ take n xs
front zero xs = refl
front (suc n) [] = refl
front (suc n) (x ∷ xs) = ap (λ zs. x ∷ zs) (front n xs)

-- A front is as many items from the first on as it has.
pub front_by_length : (w : List ℕ) (n : ℕ) (xs : List ℕ) → w ≡ take n xs → take (length w) xs ≡ w
front_by_length w n xs is = ap (λ v. take (length v) xs) is ∙ front n xs ∙ sym is

-- The length octet of an Update counts its fields and the octets of its prefix.
pub update_in_parts : (ae flags bits omits interval seqno metric : ℕ) (rest : List ℕ) →
    (layout.update ∷ (layout.update_len + length rest) ∷ update_fields ae flags bits omits interval seqno metric []) ++ rest
    ≡ spelled layout.update (update_fields ae flags bits omits interval seqno metric rest)
update_in_parts ae flags bits omits interval seqno metric rest =
    let long : layout.update_len + length rest ≡ length (update_fields ae flags bits omits interval seqno metric rest) = omega arith in
    ap (λ (n : ℕ). layout.update ∷ n ∷ update_fields ae flags bits omits interval seqno metric rest) long

-- A reader that has the router-id and the next hop keeps its state.
pub origin_is_kept : (hop : Addr) (router : List ℕ) (d : ParserState) → is_set d.router router ≡ true → is_set (hop_for hop d) (octets hop) ≡ true →
    with_hop hop (with_router router d) ≡ d
origin_is_kept (V4 o) router d routed hops =
    ap (λ (r : Option (List ℕ)). record d { router = r; hop4 = Some o }) (sym (is_set_before d.router router routed)) ∙ ap (λ (h : Option (List ℕ)). record d { hop4 = h }) (sym (is_set_before d.hop4 o hops))
origin_is_kept (V6 o) router d routed hops =
    ap (λ (r : Option (List ℕ)). record d { router = r; hop6 = Some o }) (sym (is_set_before d.router router routed)) ∙ ap (λ (h : Option (List ℕ)). record d { hop6 = h }) (sym (is_set_before d.hop6 o hops))
