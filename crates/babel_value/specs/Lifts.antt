-- Where the circular order is the order of whole numbers (profile: the range in which loop freedom is promised).
use Rattle.std.specs.Prelude.{◌≡◌, ℕ, ◌+◌, ◌%◌, ◌<◌, ◌≤◌, nat_lt}
use Rattle.babel_value.specs.Seqnos.{seqno_modulus, is_before, lift}

-- The most that two seqnos may be ahead of a common first one.
abbrev pub greatest_lift : ℕ
greatest_lift = 32767

-- Two seqnos, each at most so much ahead of start, are ordered as the whole numbers that they represent (profile).
abbrev pub AgreesOnLifts : Type 0
AgreesOnLifts =
    (start a b : ℕ) → start < seqno_modulus → a < seqno_modulus → b < seqno_modulus → lift start a ≤ greatest_lift → lift start b ≤ greatest_lift →
    is_before a b ≡ nat_lt (lift start a) (lift start b)

-- Counting n up from start, and lifting, gives back n (profile).
abbrev pub LiftsBack : Type 0
LiftsBack = (start n : ℕ) → start < seqno_modulus → n < seqno_modulus → lift start ((start + n) % seqno_modulus) ≡ n
