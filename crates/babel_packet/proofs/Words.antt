-- Octets as one number, the first one highest, and what shifts make of it.
use Rattle.std.proofs.Common.{◌≡◌, ℕ, zero, suc, ◌+◌, ◌-◌, ◌*◌, ◌/◌, ◌%◌, ◌^◌, ◌<◌, ◌≤◌, false, ◌⊎◌, List, [], ◌∷◌, ◌++◌, length, take, drop, replicate, map, get_or, nat_lt, inl, inr, refl, ap, sym, ◌∙◌, arith, slice_range, zero-mul, zero-add, bit_or, mul_assoc, add-mul, w64, length-append, length-drop, mul-le-mul, mul_right_comm}
use Rattle.std.specs.List.{range_with_len}
use Rattle.std.specs.Int.{from_be_bytes, to_be_bytes}
use Rattle.std.proofs.Math.Nat.{mod-one, mul-add-div_right}
use Rattle.std.proofs.lemmas.Bool.{le-ltb, cases_lt}
use Rattle.std.proofs.lemmas.List.{take-append-drop, drop-take, drop-drop, length-take-le, length-replicate, get_or_past}
use Rattle.std.proofs.lemmas.List.FromFn.{fill_by_all, get_or-map-range_with_len, length-map-range_with_len}
use Rattle.std.proofs.lemmas.Nat.{pow-add, pow_pos, shr_high, shl-shr, mod_low, shl_whole, shl_below, shr-shr, or_shifted, be_bytes_8, div-add-mod'}
use Rattle.babel_value.specs.Prefixes.{cleared}
use Rattle.babel_value.proofs.OctetLists.{take_octets, drop_octets}
use Rattle.babel_packet.specs.Encodable.{AreOctets}
use Rattle.babel_packet.specs.Prefixes.{octets_of, prefix_octet}
use Rattle.babel_packet.proofs.Octets.{append_octets, replicate_octets, cleared_octets, length-cleared}
use Rattle.babel_packet.proofs.Spreading.{spread_octets}

-- the number
pub value : List ℕ → ℕ
value [] = 0
value (x ∷ xs) = x * 2 ^ (8 * length xs) + value xs

pub value-nil : value [] ≡ 0
unfolding value
value-nil = refl

pub value-cons : (x : ℕ) (xs : List ℕ) (n : ℕ) → length xs ≡ n → value (x ∷ xs) ≡ x * 2 ^ (8 * n) + value xs
unfolding value
value-cons x xs n e = ap (λ m. x * 2 ^ (8 * m) + value xs) e

pub powers : (m n : ℕ) → 2 ^ (8 * (m + n)) ≡ 2 ^ (8 * m) * 2 ^ (8 * n)
powers m n = let e : 8 * (m + n) ≡ 8 * m + 8 * n = omega arith in rw e (pow-add 2 (8 * m) (8 * n))

pub value-append : (xs ys : List ℕ) → value (xs ++ ys) ≡ value xs * 2 ^ (8 * length ys) + value ys
value-append [] ys = sym (ap (λ n. n * 2 ^ (8 * length ys) + value ys) value-nil ∙ ap (λ n. n + value ys) (zero-mul (2 ^ (8 * length ys))) ∙ zero-add (value ys))
value-append (x ∷ xs) ys =
    let rest = value-append xs ys in
    let a = powers (length xs) (length ys) in
    let b = mul_assoc x (2 ^ (8 * length xs)) (2 ^ (8 * length ys)) in
    let c = add-mul (x * 2 ^ (8 * length xs)) (value xs) (2 ^ (8 * length ys)) in
    value-cons x (xs ++ ys) (length xs + length ys) (length-append xs ys)
    ∙ rw (rest, a) (omega (arith, sym b, c))
    ∙ ap (λ n. n * 2 ^ (8 * length ys) + value ys) (sym (value-cons x xs (length xs) refl))

pub value-below : (xs : List ℕ) → AreOctets xs → value xs < 2 ^ (8 * length xs)
value-below [] small = omega (arith, value-nil)
value-below (x ∷ xs) small =
    let rest = value-below xs (λ k. small (suc k)) in
    let first : x ≤ 255 = omega (arith, small 0) in
    let a : 2 ^ (8 * (1 + length xs)) ≡ 256 * 2 ^ (8 * length xs) = powers 1 (length xs) in
    let b : x * 2 ^ (8 * length xs) ≤ 255 * 2 ^ (8 * length xs) = mul-le-mul first (omega arith) in
    let n : length (x ∷ xs) ≡ 1 + length xs = omega arith in
    rw (n, a) (omega (arith, b, rest, value-cons x xs (length xs) refl))

pub value-zeros : (m n : ℕ) → value (drop m (replicate n 0)) ≡ 0
unfolding value
value-zeros zero zero = refl
value-zeros zero (suc n) = omega (arith, value-zeros zero n)
value-zeros (suc m) zero = refl
value-zeros (suc m) (suc n) = value-zeros m n

pub be_value : (xs : List ℕ) → length xs ≡ 8 → from_be_bytes w64 xs ≡ value xs
be_value [] l = cc
be_value (a ∷ []) l = cc
be_value (a ∷ b ∷ []) l = cc
be_value (a ∷ b ∷ c ∷ []) l = cc
be_value (a ∷ b ∷ c ∷ d ∷ []) l = cc
be_value (a ∷ b ∷ c ∷ d ∷ e ∷ []) l = cc
be_value (a ∷ b ∷ c ∷ d ∷ e ∷ f ∷ []) l = cc
be_value (a ∷ b ∷ c ∷ d ∷ e ∷ f ∷ g ∷ []) l = cc
be_value (a ∷ b ∷ c ∷ d ∷ e ∷ f ∷ g ∷ h ∷ []) l =
    omega (
      arith,
      value-cons a (b ∷ c ∷ d ∷ e ∷ f ∷ g ∷ h ∷ []) 7 refl,
      value-cons b (c ∷ d ∷ e ∷ f ∷ g ∷ h ∷ []) 6 refl,
      value-cons c (d ∷ e ∷ f ∷ g ∷ h ∷ []) 5 refl,
      value-cons d (e ∷ f ∷ g ∷ h ∷ []) 4 refl,
      value-cons e (f ∷ g ∷ h ∷ []) 3 refl,
      value-cons f (g ∷ h ∷ []) 2 refl,
      value-cons g (h ∷ []) 1 refl,
      value-cons h [] 0 refl,
      value-nil,
    )
be_value (a ∷ b ∷ c ∷ d ∷ e ∷ f ∷ g ∷ h ∷ i ∷ xs) l = absurd (omega (arith, l))

-- The octets of `b`, moved to the front of eight.
pub moved : (a b : List ℕ) → AreOctets b → length a + length b ≡ 8 → (value (a ++ b) * 2 ^ (8 * length a)) % 2 ^ 64 ≡ value b * 2 ^ (8 * length a)
moved a b small l =
    let p = 2 ^ (8 * length a) in let q = 2 ^ (8 * length b) in
    let e : 2 ^ (8 * (length b + length a)) ≡ q * p = powers (length b) (length a) in
    let eight : 8 * (length b + length a) ≡ 64 = omega arith in
    let whole : 2 ^ 64 ≡ q * p = sym (ap (λ n. 2 ^ n) eight) ∙ e in
    let s : value (a ++ b) * p ≡ value a * 2 ^ 64 + value b * p =
    ap (λ n. n * p) (value-append a b) ∙ add-mul (value a * q) (value b) p ∙ ap (λ n. n + value b * p) (mul_assoc (value a) q p ∙ ap (λ n. value a * n) (sym whole)) in
    let below : value b * p < 2 ^ (8 * length b + 8 * length a) = shl_below (value b) (8 * length b) (8 * length a) (value-below b small) in
    let bits : 8 * length b + 8 * length a ≡ 64 = omega arith in
    let lo : value b * p < 2 ^ 64 = rw bits at below in
    ap (λ n. n % 2 ^ 64) s ∙ mod_low (value a) 64 (value b * p) lo

-- The same, moved after `k` octets.
pub past_octets : (v m k : ℕ) → k ≤ m → v * 2 ^ (8 * m) / 2 ^ (8 * k) ≡ v * 2 ^ (8 * (m - k))
past_octets v m k le =
    let parts : m ≡ (m - k) + k = omega arith in
    let e : 2 ^ (8 * m) ≡ 2 ^ (8 * (m - k)) * 2 ^ (8 * k) = ap (λ n. 2 ^ (8 * n)) parts ∙ powers (m - k) k in
    ap (λ n. n / 2 ^ (8 * k)) (ap (λ n. v * n) e ∙ sym (mul_assoc v (2 ^ (8 * (m - k))) (2 ^ (8 * k)))) ∙ shl-shr (v * 2 ^ (8 * (m - k))) (8 * k)

-- The octets of `h` alone.
pub headed : (h t : List ℕ) → AreOctets h → AreOctets t → length h + length t ≡ 8 →
    (value (h ++ t) / 2 ^ (8 * length t) * 2 ^ (8 * length t)) % 2 ^ 64 ≡ value h * 2 ^ (8 * length t)
headed h t hs ts l =
    let q = 2 ^ (8 * length t) in
    let high : value (h ++ t) / q ≡ value h = ap (λ n. n / q) (value-append h t) ∙ shr_high (value h) (8 * length t) (value t) (value-below t ts) in
    let fits : 8 * length h + 8 * length t ≤ 64 = omega arith in
    ap (λ n. (n * q) % 2 ^ 64) high ∙ shl_whole (value h) (8 * length h) (8 * length t) 64 (value-below h hs) fits

-- Both, and zeros after them.
pub joined : (h b z : List ℕ) → AreOctets b → value z ≡ 0 →
    bit_or (value h * 2 ^ (8 * (length b + length z))) (value b * 2 ^ (8 * length z)) ≡ value (h ++ (b ++ z))
joined h b z small none =
    let tail : value (b ++ z) ≡ value b * 2 ^ (8 * length z) = value-append b z ∙ omega (arith, none) in
    let below : value b * 2 ^ (8 * length z) < 2 ^ (8 * length b + 8 * length z) = shl_below (value b) (8 * length b) (8 * length z) (value-below b small) in
    let bits : 8 * length b + 8 * length z ≡ 8 * (length b + length z) = omega arith in
    let less : value b * 2 ^ (8 * length z) < 2 ^ (8 * (length b + length z)) = rw bits at below in
    let all = value-append h (b ++ z) in
    or_shifted (value h) (8 * (length b + length z)) (value b * 2 ^ (8 * length z)) less
    ∙ sym (all ∙ rw (length-append b z, tail) refl)

nothing_left : (xs : List ℕ) → AreOctets xs → value (cleared 0 xs) ≡ 0
unfolding value
nothing_left [] small = refl
nothing_left (x ∷ xs) small =
    let first : x - x % 2 ^ 8 ≡ 0 = omega (arith, small 0) in
    let rest = nothing_left xs (λ k. small (suc k)) in
    rw first (omega (arith, rest))

-- The length ends after the first octet.
cleared_more : (bits x : ℕ) (xs : List ℕ) → 8 < bits → bits - 8 ≤ 8 * length xs →
    value (cleared (bits - 8) xs) ≡ value xs / 2 ^ (8 * length xs - (bits - 8)) * 2 ^ (8 * length xs - (bits - 8)) →
    value (cleared bits (x ∷ xs)) ≡ (x * 2 ^ (8 * length xs) + value xs) / 2 ^ (8 * length xs - (bits - 8)) * 2 ^ (8 * length xs - (bits - 8))
cleared_more bits x xs more le rest =
    let a = 2 ^ (8 * length xs) in
    let whole : 8 - bits ≡ 0 = omega arith in
    let first : x - x % 2 ^ (8 - bits) ≡ x = rw whole (rw (mod-one x) (omega arith)) in
    let c = 8 * length xs - (bits - 8) in
    let parts : 8 * length xs ≡ (bits - 8) + c = omega arith in
    let d = 2 ^ (bits - 8) in
    let power : a ≡ d * 2 ^ c = ap (λ n. 2 ^ n) parts ∙ pow-add 2 (bits - 8) c in
    let moved_on : x * a ≡ x * d * 2 ^ c = ap (λ n. x * n) power ∙ sym (mul_assoc x d (2 ^ c)) in
    let quotient : (x * a + value xs) / 2 ^ c ≡ x * d + value xs / 2 ^ c = ap (λ n. (n + value xs) / 2 ^ c) moved_on ∙ mul-add-div_right (pow_pos c) (x * d) (value xs) in
    let sum = add-mul (x * d) (value xs / 2 ^ c) (2 ^ c) in
    let all : (x * a + value xs) / 2 ^ c * 2 ^ c ≡ x * a + value (cleared (bits - 8) xs) =
    ap (λ n. n * 2 ^ c) quotient ∙ sum ∙ ap (λ n. n + value xs / 2 ^ c * 2 ^ c) (sym moved_on) ∙ ap (λ n. x * a + n) (sym rest) in
    value-cons (x - x % 2 ^ (8 - bits)) (cleared (bits - 8) xs) (length xs) (length-cleared (bits - 8) xs)
    ∙ ap (λ n. n * a + value (cleared (bits - 8) xs)) first ∙ sym all

-- The length ends within the first octet.
cleared_few : (bits x : ℕ) (xs : List ℕ) → bits ≤ 8 → AreOctets xs →
    value (cleared bits (x ∷ xs)) ≡ (x * 2 ^ (8 * length xs) + value xs) / 2 ^ (8 * length xs + (8 - bits)) * 2 ^ (8 * length xs + (8 - bits))
cleared_few bits x xs few small =
    let a = 2 ^ (8 * length xs) in
    let none : bits - 8 ≡ 0 = omega arith in
    let rest : value (cleared (bits - 8) xs) ≡ 0 = rw none (nothing_left xs small) in
    let b = 2 ^ (8 - bits) in
    let power : 2 ^ (8 * length xs + (8 - bits)) ≡ a * b = pow-add 2 (8 * length xs) (8 - bits) in
    let quotient : (x * a + value xs) / 2 ^ (8 * length xs + (8 - bits)) ≡ x / b =
    sym (shr-shr (x * a + value xs) (8 * length xs) (8 - bits)) ∙ ap (λ n. n / b) (shr_high x (8 * length xs) (value xs) (value-below xs small)) in
    let kept : x / b * b ≡ x - x % b = omega (arith, div-add-mod' x b) in
    let turned : x / b * (a * b) ≡ x / b * b * a = sym (mul_assoc (x / b) a b) ∙ mul_right_comm (x / b) a b in
    let all : (x * a + value xs) / 2 ^ (8 * length xs + (8 - bits)) * 2 ^ (8 * length xs + (8 - bits)) ≡ (x - x % b) * a =
    ap (λ n. n * 2 ^ (8 * length xs + (8 - bits))) quotient ∙ ap (λ n. x / b * n) power ∙ turned ∙ ap (λ n. n * a) kept in
    value-cons (x - x % b) (cleared (bits - 8) xs) (length xs) (length-cleared (bits - 8) xs)
    ∙ omega (arith, rest, all)

cleared_step : (bits x : ℕ) (xs : List ℕ) → AreOctets xs → bits - 8 ≤ 8 * length xs →
    value (cleared (bits - 8) xs) ≡ value xs / 2 ^ (8 * length xs - (bits - 8)) * 2 ^ (8 * length xs - (bits - 8)) →
    (8 < bits) ⊎ (bits ≤ 8) →
    value (cleared bits (x ∷ xs)) ≡ value (x ∷ xs) / 2 ^ (8 * length (x ∷ xs) - bits) * 2 ^ (8 * length (x ∷ xs) - bits)
cleared_step bits x xs small le rest (inl more) =
    let same : 8 * length xs - (bits - 8) ≡ 8 * length (x ∷ xs) - bits = omega arith in
    cleared_more bits x xs more le rest
    ∙ ap (λ c. (x * 2 ^ (8 * length xs) + value xs) / 2 ^ c * 2 ^ c) same
    ∙ ap (λ n. n / 2 ^ (8 * length (x ∷ xs) - bits) * 2 ^ (8 * length (x ∷ xs) - bits)) (sym (value-cons x xs (length xs) refl))
cleared_step bits x xs small le rest (inr few) =
    let same : 8 * length xs + (8 - bits) ≡ 8 * length (x ∷ xs) - bits = omega arith in
    cleared_few bits x xs few small
    ∙ ap (λ c. (x * 2 ^ (8 * length xs) + value xs) / 2 ^ c * 2 ^ c) same
    ∙ ap (λ n. n / 2 ^ (8 * length (x ∷ xs) - bits) * 2 ^ (8 * length (x ∷ xs) - bits)) (sym (value-cons x xs (length xs) refl))

-- The bits past the length are shifted out.
pub value-cleared : (bits : ℕ) (xs : List ℕ) → AreOctets xs → bits ≤ 8 * length xs →
    value (cleared bits xs) ≡ value xs / 2 ^ (8 * length xs - bits) * 2 ^ (8 * length xs - bits)
value-cleared bits [] small le =
    let z : 8 * 0 - bits ≡ 0 = omega arith in rw z (omega (arith, value-nil))
value-cleared bits (x ∷ xs) small le =
    let few : bits - 8 ≤ 8 * length xs = omega arith in
    cleared_step bits x xs (λ k. small (suc k)) few (value-cleared (bits - 8) xs (λ k. small (suc k)) few) (cases_lt 8 bits)

-- What is put together as one number is the prefix.
pub word_octets : (default payload : List ℕ) (omitted bits at written end : ℕ) → length default ≡ 8 → AreOctets default → AreOctets payload →
    octets_of bits ≤ 8 → omitted < octets_of bits → 8 ≤ at → written ≡ octets_of bits - omitted → end ≡ at + written → end ≤ length payload →
    to_be_bytes w64
    ((bit_or (from_be_bytes w64 (take omitted default ++ replicate (8 - omitted) 0))
    ((from_be_bytes w64 (slice_range payload (end - 8) end) * 2 ^ (8 * (8 - written))) % 2 ^ 64 / 2 ^ (8 * omitted))
    / 2 ^ (8 * 8 - bits) * 2 ^ (8 * 8 - bits)) % 2 ^ 64)
    ≡ cleared bits (map (prefix_octet default omitted bits at payload) (range_with_len 0 8))
word_octets default payload omitted bits at written end long small octets short some front count ending there =
    be_bytes_8 (cleared bits o) _ (length-cleared bits o ∙ o_long) (cleared_octets bits o o_small) (number ∙ sym (be_value (cleared bits o) (length-cleared bits o ∙ o_long)))
    ∙ ap (cleared bits) spread
  where
    h : List ℕ
    h = take omitted default

    b : List ℕ
    b = take written (drop at payload)

    z : List ℕ
    z = drop (omitted + written) (replicate 8 0)

    o : List ℕ
    o = h ++ (b ++ z)

    word : List ℕ
    word = slice_range payload (end - 8) end

    a : List ℕ
    a = take (8 - written) word

    h_long : length h ≡ omitted
    h_long = length-take-le omitted default (omega arith)

    b_long : length b ≡ written
    b_long = length-take-le written (drop at payload) (omega (arith, length-drop at payload))

    z_long : length z ≡ 8 - (omitted + written)
    z_long = length-drop (omitted + written) (replicate 8 0)

    b_small : AreOctets b
    b_small = take_octets written (drop at payload) (drop_octets at payload octets)

    o_small : AreOctets o
    o_small = append_octets h (b ++ z) (take_octets omitted default small) (append_octets b z b_small (drop_octets (omitted + written) (replicate 8 0) (replicate_octets 8)))

    o_long : length o ≡ 8
    o_long = omega (arith, length-append h (b ++ z), length-append b z, h_long, b_long, z_long)

    count_eight : end - (end - 8) ≡ 8
    count_eight = omega arith

    word_long : length word ≡ 8
    word_long = rw count_eight (length-take-le 8 (drop (end - 8) payload) (omega (arith, length-drop (end - 8) payload)))

    a_long : length a ≡ 8 - written
    a_long = length-take-le (8 - written) word (omega (arith, word_long))

    rest_is : drop (8 - written) word ≡ b
    rest_is =
        let eight : end - (end - 8) ≡ (8 - written) + written = omega arith in
        let place : (end - 8) + (8 - written) ≡ at = omega arith in
        rw eight (drop-take (8 - written) written (drop (end - 8) payload) ∙ ap (take written) (drop-drop (8 - written) (end - 8) payload ∙ ap (λ n. drop n payload) place))

    word_is : word ≡ a ++ b
    word_is = sym (take-append-drop (8 - written) word) ∙ ap (λ ys. a ++ ys) rest_is

    shifted : (from_be_bytes w64 word * 2 ^ (8 * (8 - written))) % 2 ^ 64 ≡ value b * 2 ^ (8 * (8 - written))
    shifted =
        let m = moved a b b_small (omega (arith, a_long, b_long)) in
        let m2 : (value (a ++ b) * 2 ^ (8 * (8 - written))) % 2 ^ 64 ≡ value b * 2 ^ (8 * (8 - written)) = rw a_long at m in
        ap (λ n. (n * 2 ^ (8 * (8 - written))) % 2 ^ 64) (be_value word word_long ∙ ap value word_is) ∙ m2

    back : value b * 2 ^ (8 * (8 - written)) / 2 ^ (8 * omitted) ≡ value b * 2 ^ (8 * length z)
    back =
        let e : (8 - written) - omitted ≡ length z = omega (arith, z_long) in
        past_octets (value b) (8 - written) omitted (omega arith) ∙ ap (λ n. value b * 2 ^ (8 * n)) e

    first : from_be_bytes w64 (h ++ replicate (8 - omitted) 0) ≡ value h * 2 ^ (8 * (length b + length z))
    first =
        let zeros = replicate (8 - omitted) 0 in
        let zeros_long : length zeros ≡ 8 - omitted = length-replicate (8 - omitted) 0 in
        let all : length (h ++ zeros) ≡ 8 = omega (arith, length-append h zeros, h_long, zeros_long) in
        let e : length zeros ≡ length b + length z = omega (arith, zeros_long, b_long, z_long) in
        be_value (h ++ zeros) all ∙ value-append h zeros ∙ ap (λ n. value h * 2 ^ (8 * n) + value zeros) e ∙ omega (arith, value-zeros 0 (8 - omitted))

    whole : bit_or (from_be_bytes w64 (h ++ replicate (8 - omitted) 0)) ((from_be_bytes w64 word * 2 ^ (8 * (8 - written))) % 2 ^ 64 / 2 ^ (8 * omitted)) ≡ value o
    whole = rw (first, shifted, back) (joined h b z b_small (value-zeros (omitted + written) 8))

    number :
        (bit_or (from_be_bytes w64 (h ++ replicate (8 - omitted) 0)) ((from_be_bytes w64 word * 2 ^ (8 * (8 - written))) % 2 ^ 64 / 2 ^ (8 * omitted))
        / 2 ^ (8 * 8 - bits) * 2 ^ (8 * 8 - bits)) % 2 ^ 64 ≡ value (cleared bits o)
    number =
        let few : bits ≤ 8 * length o = omega (arith, o_long) in
        let c = value-cleared bits o o_small few in
        let c8 : value (cleared bits o) ≡ value o / 2 ^ (8 * 8 - bits) * 2 ^ (8 * 8 - bits) = rw o_long at c in
        let below : value (cleared bits o) < 2 ^ (8 * length (cleared bits o)) = value-below (cleared bits o) (cleared_octets bits o o_small) in
        let below64 : value (cleared bits o) < 2 ^ 64 = rw (length-cleared bits o, o_long) at below in
        rw whole (ap (λ n. n % 2 ^ 64) (sym c8) ∙ omega (arith, below64))

    spread : o ≡ map (prefix_octet default omitted bits at payload) (range_with_len 0 8)
    spread = spread_octets default payload o omitted bits at omitted written (omitted + written) 8 (omega arith) (omega arith) refl (omega arith) short (omega arith) refl

cleared_at : (bits : ℕ) (xs : List ℕ) (k : ℕ) → get_or (cleared bits xs) k 0 ≡ get_or xs k 0 - get_or xs k 0 % 2 ^ (8 - (bits - 8 * k))
cleared_at bits [] k = omega arith
cleared_at bits (x ∷ xs) zero = let e : bits - 8 * 0 ≡ bits = omega arith in rw e refl
cleared_at bits (x ∷ xs) (suc k) = let e : bits - 8 - 8 * k ≡ bits - 8 * suc k = omega arith in cleared_at (bits - 8) xs k ∙ rw e refl

-- A prefix of at most 64 bits, in an address of any size.
pub resized_octets : (default first result after payload : List ℕ) (omitted bits at n : ℕ) → octets_of bits ≤ 8 → length result ≡ n →
    ((j : ℕ) → j < 8 → get_or first j 0 ≡ get_or default j 0) →
    after ≡ cleared bits (map (prefix_octet first omitted bits at payload) (range_with_len 0 8)) →
    ((j : ℕ) → j < n → get_or result j 0 ≡ get_or after j 0) →
    result ≡ cleared bits (map (prefix_octet default omitted bits at payload) (range_with_len 0 n))
resized_octets default first result after payload omitted bits at n short long same read is =
    fill_by_all g result n 0 long (λ k h. is k h ∙ by k (cases_lt k 8))
    ∙ sym (fill_by_all g (cleared bits (map f (range_with_len 0 n))) n 0 (length-cleared bits (map f (range_with_len 0 n)) ∙ length-map-range_with_len f 0 n)
    (λ k h. cleared_at bits (map f (range_with_len 0 n)) k ∙ ap (rounded k) (get_or-map-range_with_len f 0 n k k 0 h (omega arith))))
  where
    f : ℕ → ℕ
    f = prefix_octet default omitted bits at payload

    f8 : ℕ → ℕ
    f8 = prefix_octet first omitted bits at payload

    rounded : ℕ → ℕ → ℕ
    rounded k x = x - x % 2 ^ (8 - (bits - 8 * k))

    g : ℕ → ℕ
    g k = rounded k (f k)

    by : (k : ℕ) → (k < 8) ⊎ (8 ≤ k) → get_or after k 0 ≡ g k
    by k (inl less) =
        let alike : f8 k ≡ f k = rw (same k less) refl in
        ap (λ xs. get_or xs k 0) read ∙ cleared_at bits (map f8 (range_with_len 0 8)) k ∙ ap (rounded k) (get_or-map-range_with_len f8 0 8 k k 0 less (omega arith) ∙ alike)
    by k (inr more) =
        let eight : length after ≡ 8 = ap length read ∙ length-cleared bits (map f8 (range_with_len 0 8)) ∙ length-map-range_with_len f8 0 8 in
        let far : nat_lt k (octets_of bits) ≡ false = le-ltb k (octets_of bits) (omega arith) in
        let none : f k ≡ 0 = rw far refl in
        let zero_kept : rounded k 0 ≡ 0 = omega arith in
        get_or_past after k 0 (omega (arith, eight)) ∙ sym (ap (rounded k) none ∙ zero_kept)

-- `front` of a prefix.
pub front_number : (octets : List ℕ) (kept n : ℕ) → length octets ≡ 8 → AreOctets octets → kept < 8 → n ≡ from_be_bytes w64 octets →
    (n / 2 ^ (8 * (8 - kept)) * 2 ^ (8 * (8 - kept))) % 2 ^ 64 ≡ from_be_bytes w64 (take kept octets ++ replicate (8 - kept) 0)
front_number octets kept n long small less is =
    let h = take kept octets in
    let t = drop kept octets in
    let zeros : List ℕ = replicate (8 - kept) 0 in
    let h_long : length h ≡ kept = length-take-le kept octets (omega arith) in
    let t_long : length t ≡ 8 - kept = omega (arith, length-drop kept octets) in
    let zeros_long : length zeros ≡ 8 - kept = length-replicate (8 - kept) 0 in
    let all : length (h ++ zeros) ≡ 8 = omega (arith, length-append h zeros, h_long, zeros_long) in
    let parts : n ≡ value (h ++ t) = is ∙ be_value octets long ∙ ap value (sym (take-append-drop kept octets)) in
    let e = headed h t (take_octets kept octets small) (drop_octets kept octets small) (omega (arith, h_long, t_long)) in
    let e8 : (value (h ++ t) / 2 ^ (8 * (8 - kept)) * 2 ^ (8 * (8 - kept))) % 2 ^ 64 ≡ value h * 2 ^ (8 * (8 - kept)) = rw t_long at e in
    let last : from_be_bytes w64 (h ++ zeros) ≡ value h * 2 ^ (8 * (8 - kept)) =
    be_value (h ++ zeros) all ∙ value-append h zeros ∙ ap (λ m. value h * 2 ^ (8 * m) + value zeros) zeros_long ∙ omega (arith, value-zeros 0 (8 - kept)) in
    ap (λ m. (m / 2 ^ (8 * (8 - kept)) * 2 ^ (8 * (8 - kept))) % 2 ^ 64) parts ∙ e8 ∙ sym last

-- `first_octets` of a prefix.
pub number_octets : (default payload word result : List ℕ) (omitted bits at full n front : ℕ) → length default ≡ 8 → AreOctets default → AreOctets payload →
    full ≡ octets_of bits → full ≤ 8 → omitted < full → 8 ≤ at → at + (full - omitted) ≤ length payload →
    word ≡ slice_range payload (at + (full - omitted) - 8) (at + (full - omitted)) →
    n ≡ from_be_bytes w64 word →
    front ≡ from_be_bytes w64 (take omitted default ++ replicate (8 - omitted) 0) →
    result ≡ to_be_bytes w64 ((bit_or front ((n * 2 ^ (8 * (8 - (full - omitted)))) % 2 ^ 64 / 2 ^ (8 * omitted)) / 2 ^ (8 * 8 - bits) * 2 ^ (8 * 8 - bits)) % 2 ^ 64) →
    result ≡ cleared bits (map (prefix_octet default omitted bits at payload) (range_with_len 0 8))
number_octets default payload word result omitted bits at full n front long small octets full_is short some later there word_is n_is front_is is =
    is
    ∙ ap (λ x. to_be_bytes w64 ((bit_or x ((n * 2 ^ (8 * (8 - (full - omitted)))) % 2 ^ 64 / 2 ^ (8 * omitted)) / 2 ^ (8 * 8 - bits) * 2 ^ (8 * 8 - bits)) % 2 ^ 64)) front_is
    ∙ ap
    (λ x. to_be_bytes w64 ((bit_or (from_be_bytes w64 (take omitted default ++ replicate (8 - omitted) 0)) ((x * 2 ^ (8 * (8 - (full - omitted)))) % 2 ^ 64 / 2 ^ (8 * omitted)) / 2 ^ (8 * 8 - bits) * 2 ^ (8 * 8 - bits)) % 2 ^ 64))
    (n_is ∙ ap (from_be_bytes w64) word_is)
    ∙ word_octets default payload omitted bits at (full - omitted) (at + (full - omitted)) long small octets (omega arith) (omega arith) later (omega arith) refl there
