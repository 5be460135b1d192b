-- A speaker of a network has room to announce each prefix of its configuration.
use Rattle.std.proofs.Common.{◌≡◌, ◌<◌, ◌≤◌, ℕ, suc, Bool, true, false, ◌||◌, List, [], ◌∷◌, length, is_some, cond, refl, sym, ap, ◌∙◌, arith, ◌==◌}
use Rattle.std.specs.declared.cmp.Ordering.{Ordering}
use Rattle.std.specs.declared.cmp.Ordering.TheVariants.{Less, Equal, Greater}
use Rattle.std.specs.List.{list_any, IsDistinct, AllByRecursion}
use Rattle.std.specs.Ordering.{is_lt, is_eq}
use Rattle.std.specs.FinMap.{find, is_sorted}
use Rattle.std.specs.FinMap.Entries.{below_all, is_some-find}
use Rattle.std.proofs.lemmas.Bool.{and_parts, false≢true}
use Rattle.std.proofs.lemmas.Bool.Decides.{nat_tests}
use Rattle.std.proofs.lemmas.Cmp.{eq_by_cmp_equiv}
use Rattle.std.proofs.lemmas.Map.Keys.{IsDistinct-cons}
use Rattle.std.proofs.lemmas.Map.Made.{length-le_from_is_member}
use Rattle.std.proofs.lemmas.Map.Steps.{list_any_congr}
use Rattle.babel_value.specs.Orders.{prefix_cmp}
use Rattle.babel_value.specs.Prefixes.{PrefixValue}
use Rattle.babel_value.proofs.OrderLaws.{prefix_total}
use Rattle.babel_state.specs.Sameness.{is_same_prefix, has_prefix}
use Rattle.babel_state.specs.State.{State, PrefixSet, announces, prefixes_in}
use Rattle.babel_state.specs.Calls.{is_prefix_too_many}

-- ---- the announced prefixes are distinct

apart : (o : Ordering) → is_lt o ≡ true → is_eq o ≡ false
apart Less h = refl
apart Equal h = absurd (false≢true h)
apart Greater h = refl

apart_from_all : (p : PrefixValue) (es : PrefixSet) → below_all prefix_cmp p es ≡ true → AllByRecursion (λ q. is_same_prefix p q ≡ false) (prefixes_in es)
apart_from_all p [] h = tt
apart_from_all p (e ∷ es) h =
    let parts = and_parts (is_lt (prefix_cmp p e.0)) (below_all prefix_cmp p es) h in
    (apart (prefix_cmp p e.0) parts.0, apart_from_all p es parts.1)

distinct : (es : PrefixSet) → is_sorted prefix_cmp es ≡ true → IsDistinct is_same_prefix (prefixes_in es)
unfolding IsDistinct
distinct [] h = tt
distinct (e ∷ es) h =
    let parts = and_parts (below_all prefix_cmp e.0 es) (is_sorted prefix_cmp es) h in
    IsDistinct-cons is_same_prefix e.0 (prefixes_in es) (apart_from_all e.0 es parts.0) (distinct es parts.1)

-- ---- with one more they are no more than those of the configuration

none_same : (p : PrefixValue) (ps : List PrefixValue) → list_any (is_same_prefix p) ps ≡ false → AllByRecursion (λ q. is_same_prefix p q ≡ false) ps
none_same p [] h = tt
none_same p (q ∷ qs) h = by (is_same_prefix p q) (list_any (is_same_prefix p) qs) refl h (none_same p qs)
  where
    by : (a b : Bool) → is_same_prefix p q ≡ a → (a || b) ≡ false → (b ≡ false → AllByRecursion (λ r. is_same_prefix p r ≡ false) qs) → (is_same_prefix p q ≡ false) × AllByRecursion (λ r. is_same_prefix p r ≡ false) qs
    by true b is h more = absurd (false≢true (sym h))
    by false b is h more = (is, more h)

fewer : (prefix : PrefixValue) (es : PrefixSet) (listed : List PrefixValue) → is_sorted prefix_cmp es ≡ true → is_some (find prefix_cmp prefix es) ≡ false → has_prefix prefix listed ≡ true → ((q : PrefixValue) → is_some (find prefix_cmp q es) ≡ true → has_prefix q listed ≡ true) → length (prefix ∷ prefixes_in es) ≤ length listed
fewer prefix es listed sorted new here all =
    length-le_from_is_member (eq_by_cmp_equiv prefix_total) (prefix ∷ prefixes_in es) listed
    (IsDistinct-cons is_same_prefix prefix (prefixes_in es) (none_same prefix (prefixes_in es) (sym (is_some-find prefix_cmp prefix es) ∙ new)) (distinct es sorted))
    (λ q there. by q (is_same_prefix q prefix) refl there)
  where
    by : (q : PrefixValue) → (b : Bool) → is_same_prefix q prefix ≡ b → (b || list_any (is_same_prefix q) (prefixes_in es)) ≡ true → has_prefix q listed ≡ true
    by q true same there = list_any_congr (eq_by_cmp_equiv prefix_total) q prefix listed same ∙ here
    by q false same there = all q (is_some-find prefix_cmp q es ∙ there)

length_map : (es : PrefixSet) → length (prefixes_in es) ≡ length es
length_map [] = refl
length_map (e ∷ es) = ap (λ n. suc n) (length_map es)

-- none is too many, if all that are announced are listed, and no more than 64 are
pub not_too_many : (prefix : PrefixValue) (s : State) (listed : List PrefixValue) → is_sorted prefix_cmp s.announced ≡ true → length listed ≤ 64 → has_prefix prefix listed ≡ true → ((q : PrefixValue) → announces q s ≡ true → has_prefix q listed ≡ true) → is_prefix_too_many prefix s ≡ false
not_too_many prefix s listed sorted few here all = by (announces prefix s) refl
  where
    less : announces prefix s ≡ false → length s.announced < 64
    less new =
        let fits = fewer prefix s.announced listed sorted new here all in
        let same = length_map s.announced in
        omega arith

    not_64 : (n : ℕ) → n < 64 → (n == 64) ≡ false
    not_64 n h = grind (arith, nat_tests)

    by : (b : Bool) → announces prefix s ≡ b → cond b false (length s.announced == 64) ≡ false
    by true is = refl
    by false is = not_64 (length s.announced) (less is)
