-- Bounds on prefixes: what is below one comes first, in a list in the order of its keys (profile).
use Rattle.std.specs.Prelude.{◌≡◌, Bool, true, false, not, Option, Some, None}
use Rattle.std.specs.Option.{option_map_or}
use Rattle.std.proofs.Common.{refl, sym, ap, ◌∙◌}
use Rattle.std.specs.declared.cmp.Ordering.{Ordering}
use Rattle.std.specs.declared.cmp.Ordering.TheVariants.{Less, Equal, Greater}
use Rattle.std.specs.Ordering.{is_lt, is_gt, ordering_then, ordering_reverse}
use Rattle.std.proofs.lemmas.Cmp.{upto}
use Rattle.babel_value.specs.Prefixes.{PrefixValue}
use Rattle.babel_value.specs.Orders.{prefix_cmp, peer_cmp}
use Rattle.babel_value.proofs.OrderLaws.{prefix_total}
use Rattle.babel_choice.specs.declared.entries.RouteKey.{RouteKey}
use Rattle.babel_choice.specs.RouteKeys.{route_cmp}

-- The prefix is greater than this one; each is, if there is none.
abbrev pub is_beyond : Option PrefixValue → PrefixValue → Bool
is_beyond after prefix = option_map_or (λ q. is_lt (prefix_cmp q prefix)) after true

-- The prefix is lesser than this one.
abbrev pub is_before : PrefixValue → PrefixValue → Bool
is_before bound prefix = is_lt (prefix_cmp prefix bound)

-- The prefix isn't greater than this one; none is, if there is none.
abbrev pub is_through : Option PrefixValue → PrefixValue → Bool
is_through after prefix = not (is_beyond after prefix)

-- A lesser route is of a prefix that isn't greater.
not_after : (a b : Ordering) → is_gt (ordering_then a b) ≡ false → is_gt a ≡ false
not_after Less b h = refl
not_after Equal b h = refl
not_after Greater b h = h

pub route_not_after : (x y : RouteKey) → is_gt (route_cmp x y) ≡ false → is_gt (prefix_cmp x.prefix y.prefix) ≡ false
route_not_after x y h = not_after (prefix_cmp x.prefix y.prefix) (peer_cmp x.peer y.peer) h

pub before_falls : (bound x y : PrefixValue) → is_gt (prefix_cmp x y) ≡ false → is_before bound y ≡ true → is_before bound x ≡ true
before_falls bound x y upwards below = by (prefix_cmp x y) refl upwards
  where
    less : (r : Ordering) → is_lt r ≡ true → r ≡ Less
    less Less e = refl
    less Equal e = cc
    less Greater e = cc

    by : (r : Ordering) → prefix_cmp x y ≡ r → is_gt r ≡ false → is_lt (prefix_cmp x bound) ≡ true
    by Less e h = ap is_lt (prefix_total.trans x y bound e (less (prefix_cmp y bound) below))
    by Equal e h = ap is_lt (prefix_total.congr x y bound e) ∙ below
    by Greater e h = cc

reversed : (r : Ordering) → is_lt (ordering_reverse r) ≡ is_gt r
reversed Less = refl
reversed Equal = refl
reversed Greater = refl

pub through_falls : (after : Option PrefixValue) (x y : PrefixValue) → is_gt (prefix_cmp x y) ≡ false → is_through after y ≡ true → is_through after x ≡ true
through_falls None x y upwards below = below
through_falls (Some q) x y upwards below =
    ap not (flip x ∙ upto prefix_total x y q upwards (sym (flip y) ∙ is_not (is_lt (prefix_cmp q y)) below))
  where
    flip : (p : PrefixValue) → is_lt (prefix_cmp q p) ≡ is_gt (prefix_cmp p q)
    flip p = ap is_lt (prefix_total.antisymm q p) ∙ reversed (prefix_cmp p q)

    is_not : (b : Bool) → not b ≡ true → b ≡ false
    is_not true h = sym h
    is_not false h = refl
