-- What an outcome of a comparison is, from what is asked of it.
use Rattle.std.proofs.Common.{◌≡◌, true, false, not, refl}
use Rattle.std.specs.declared.cmp.Ordering.{Ordering}
use Rattle.std.specs.declared.cmp.Ordering.TheVariants.{Less, Equal, Greater}
use Rattle.std.specs.Ordering.{is_lt, is_eq, is_gt, ordering_then, ordering_reverse}

pub less : (r : Ordering) → is_lt r ≡ true → r ≡ Less
less Less e = refl
less Equal e = cc
less Greater e = cc

pub equal : (r : Ordering) → is_eq r ≡ true → r ≡ Equal
equal Less e = cc
equal Equal e = refl
equal Greater e = cc

pub greater_else : (r : Ordering) → not (is_lt r) ≡ true → is_eq r ≡ false → r ≡ Greater
greater_else Less h e = cc
greater_else Equal h e = cc
greater_else Greater h e = refl

pub less_reversed : (r : Ordering) → is_lt (ordering_reverse r) ≡ is_gt r
less_reversed Less = refl
less_reversed Equal = refl
less_reversed Greater = refl

pub first_not_less : (a b : Ordering) → is_lt (ordering_then a b) ≡ false → is_lt a ≡ false
first_not_less Less b h = h
first_not_less Equal b h = refl
first_not_less Greater b h = refl
