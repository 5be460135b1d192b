-- Parts of octets are octets.
use Rattle.std.proofs.Common.{ℕ, zero, suc, List, [], ◌∷◌, take, drop, arith}
use Rattle.babel_value.specs.Octets.{AreOctets}

pub take_octets : (n : ℕ) (xs : List ℕ) → AreOctets xs → AreOctets (take n xs)
take_octets zero xs small k = omega arith
take_octets (suc n) [] small k = omega arith
take_octets (suc n) (x ∷ xs) small zero = small 0
take_octets (suc n) (x ∷ xs) small (suc k) = take_octets n xs (λ j. small (suc j)) k

pub drop_octets : (n : ℕ) (xs : List ℕ) → AreOctets xs → AreOctets (drop n xs)
drop_octets zero xs small = small
drop_octets (suc n) [] small = small
drop_octets (suc n) (x ∷ xs) small = drop_octets n xs (λ j. small (suc j))
