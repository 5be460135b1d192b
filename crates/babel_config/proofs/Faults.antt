-- Why a list cannot be read, and that a fault excludes a reading.
use Rattle.std.proofs.Common.{◌≡◌, ℕ, zero, suc, ◌<◌, List, [], ◌∷◌, take, length, get_or, Option, Some, None, Result, Ok, Err, IfErr, IsErrAnd, MatchOption, sym, ap, arith}
use Rattle.babel_value.specs.declared.addresses.Addr.{Addr}
use Rattle.babel_value.specs.declared.addresses.Addr.TheVariants.{V4}
use Rattle.babel_text.specs.Prefixes.{IsNetworkText}
use Rattle.std.specs.Net.Grammar.{Parses}
use Rattle.babel_config.specs.Scalars.{IsIpv4NetworkText}
use Rattle.toml.specs.Data.{Data, Items, no_items, item, get_item}
use Rattle.toml.specs.declared.value.Value.{Value}
use Rattle.toml.specs.View.{view, items_view}
use Rattle.babel_toml.specs.declared.errors.FileFault.{FileFault}
use Rattle.babel_toml.specs.Values.{IsOptional, IsGivenOr, IsItems}
use Rattle.babel_toml.specs.Faults.{IsCaused, IsRead, IsGivenRead, HasItemFault}

item_in_front : (vs : List Value) (i m : ℕ) (e : Data) → m < i → get_item m (items_view vs) ≡ Some e → get_item m (items_view (take i vs)) ≡ Some e
item_in_front [] i zero e inside got = absurd (cc)
item_in_front [] i (suc m) e inside got = absurd (cc)
item_in_front (v ∷ vs) zero m e inside got = absurd (omega arith)
item_in_front (v ∷ vs) (suc i) zero e inside got = got
item_in_front (v ∷ vs) (suc i) (suc m) e inside got = item_in_front vs i m e (omega arith) got

item_at : (vs : List Value) (i : ℕ) (v : Value) → i < length vs → v ≡ get_or vs i v → get_item i (items_view vs) ≡ Some (view v)
item_at [] i v inside is = absurd (omega arith)
item_at (w ∷ vs) zero v inside is = ap (λ x. Some (view x)) (sym is)
item_at (w ∷ vs) (suc i) v inside is = item_at vs i v (omega arith) is

module _ {A : Type 0} (Means : Data → A → Type 0) where
  pub items_read : (items : Items) (list : List A) → IsItems Means items list → (m : ℕ) (e : Data) → get_item m items ≡ Some e → IsRead Means e
  items_read no_items list h zero e got = absurd (cc)
  items_read no_items list h (suc m) e got = absurd (cc)
  items_read (item d items) [] h m e got = absurd h
  items_read (item d items) (a ∷ list) h zero e got = let same : d ≡ e = cc in (a, rw (sym same) h.0)
  items_read (item d items) (a ∷ list) h (suc m) e got = items_read items list h.1 m e got

  -- The first item that was not read.
  pub item_fault : (HasFault : ℕ → Data → FileFault → Type 0) (vs : List Value) (i : ℕ) (v : Value) (list : List A) (fault : FileFault) → i < length vs → v ≡ get_or vs i v → IsItems Means (items_view (take i vs)) list → HasFault i (view v) fault → HasItemFault Means HasFault (items_view vs) fault
  item_fault HasFault vs i v list fault inside is h k =
      (i, view v, item_at vs i v inside is, k, λ m e earlier got. items_read (items_view (take i vs)) list h m e (item_in_front vs i m e earlier got))

module _ {A : Type 0} (Means : Data → A → Type 0) where
  pub given_read : (o : Option Data) (x : Option A) → IsOptional Means o x → IsGivenRead Means o
  given_read None x h = tt
  given_read (Some d) None h = absurd h
  given_read (Some d) (Some a) h = (a, h)

  pub given_or_read : (default : A) (o : Option Data) (a : A) → IsGivenOr Means default o a → IsGivenRead Means o
  given_or_read default None a h = tt
  given_or_read default (Some d) a h = (a, h)

pub err_caused : {A : Type 0} (r : Result A FileFault) (P : FileFault → Type 0) (fault : FileFault) → IsErrAnd r (λ given. given ≡ fault) → IsCaused P fault → IfErr r (IsCaused P)
err_caused (Ok a) P fault is h = absurd is
err_caused (Err given) P fault is h = rw is h

pub never_spelled : {A E : Type 0} (Spells : List ℕ → A → Type 0) (text : List ℕ) (r : Result A E) (e : E) → r ≡ Err e → Parses Spells text r → (a : A) → ¬ (Spells text a)
never_spelled Spells text r e is h = rw is at h

pub no_network : (text : List ℕ) (r : Option (Addr × ℕ)) → r ≡ None → MatchOption r ((value : Addr × ℕ) → ¬ (IsNetworkText text value)) (IsNetworkText text) → (net : List ℕ × ℕ) → ¬ (IsIpv4NetworkText text net)
no_network text None is h net = h (V4 net.0, net.1)
no_network text (Some value) is h net = absurd (cc)
