-- A walk over the prefixes finds no selection that isn't current if and only if all are current.
use Rattle.std.specs.Prelude.{◌≡◌, ℕ, Bool, true, false, not, ◌||◌, [], is_some, Option, Some, None}
use Rattle.std.specs.Ordering.{is_eq}
use Rattle.std.specs.Cmp.{tied_itself}
use Rattle.std.specs.FinMap.{find, put}
use Rattle.std.proofs.Common.{refl, sym, ap, subst, ◌∙◌, inl, inr, eq-eqb}
use Rattle.std.proofs.lemmas.Bool.{false≢true}
use Rattle.babel_value.specs.declared.keys.Peer.{Peer}
use Rattle.babel_value.specs.Orders.{prefix_cmp}
use Rattle.babel_value.specs.Prefixes.{PrefixValue}
use Rattle.babel_value.proofs.OrderLaws.{prefix_total, peer_total, octets_total, addr_total}
use Rattle.babel_choice.specs.declared.entries.Selection.{Selection}
use Rattle.babel_route.specs.Currency.{is_same_selection, is_current}
use Rattle.babel_route.specs.PrefixWalks.{without_prefix}
use Rattle.babel_route.specs.Selections.{RoutesValue, selection_at, choice_at}
use Rattle.babel_route.proofs.CurrencyLemmas.{same_selection}
use Rattle.babel_sources.specs.Sources.{Sources}
use Rattle.babel_state.specs.CurrentSelections.{AreCurrent}
use Rattle.babel_state.specs.Sameness.{has_prefix}
use Rattle.babel_state.specs.State.{State, PrefixSet, announces, cost_at, prefixes_in}
use Rattle.babel_speaker.specs.StalePrefixes.{is_stale}
use Rattle.babel_speaker.proofs.Staleness.{IsDone, AreDone, empty, all_done, step_stale}

-- ---- the test of a selection

-- Any selection passes the test against itself.
passes_itself : (selection : Option Selection) → is_same_selection selection selection ≡ true
unfolding is_same_selection
passes_itself None = refl
passes_itself (Some s) =
    rw (
      tied_itself peer_total s.peer,
      tied_itself octets_total s.entry.router,
      tied_itself addr_total s.entry.next_hop,
      eq-eqb s.entry.distance.seqno s.entry.distance.seqno refl,
      eq-eqb s.entry.distance.metric s.entry.distance.metric refl,
      eq-eqb s.entry.interval s.entry.interval refl,
      eq-eqb s.entry.deadline s.entry.deadline refl,
    ) refl

abbrev pub NoneIsStale : Sources → (Peer → ℕ) → PrefixSet → RoutesValue → Type 0
NoneIsStale sources cost announced routes = (prefix : PrefixValue) → is_stale sources cost announced routes prefix ≡ false

pub all_current : (s : State) → NoneIsStale s.sources (cost_at s) s.announced s.routes → AreCurrent s
all_current s fresh p = same_selection (selection_at p s.routes) (choice_at s.sources (cost_at s) p (announces p s) s.routes) (is_so (is_current s.sources (cost_at s) p (announces p s) s.routes) (fresh p))
  where
    is_so : (b : Bool) → not b ≡ false → b ≡ true
    is_so true h = refl
    is_so false h = sym h

pub none_stale : (s : State) → AreCurrent s → NoneIsStale s.sources (cost_at s) s.announced s.routes
none_stale s current p =
    ap not (ap (is_same_selection (selection_at p s.routes)) (sym (current p)) ∙ passes_itself (selection_at p s.routes))

-- ---- the walk

module _ (sources : Sources) (cost : Peer → ℕ) (announced : PrefixSet) (routes : RoutesValue) where
  pub passed_all : (rest : RoutesValue) → rest ≡ empty → AreDone sources cost announced routes [] rest → NoneIsStale sources cost announced routes
  passed_all rest ends done p = sym (all_done sources cost announced routes [] (subst (λ (r : RoutesValue). AreDone sources cost announced routes [] r) ends done) p)

  has_it : (q : PrefixValue) → has_prefix q (prefixes_in (put prefix_cmp q tt [])) ≡ true
  has_it q = ap (λ o. is_eq o || false) (tied_itself prefix_total q)

  -- A selection that isn't current while the prefix is still to come isn't so in the whole table.
  pub found_one : (q : PrefixValue) (rest : RoutesValue) → is_current sources cost q (is_some (find prefix_cmp q announced)) rest ≡ false → AreDone sources cost announced routes [] rest → is_stale sources cost announced routes q ≡ true
  found_one q rest stale done = by (step_stale sources cost announced routes q [] rest stale done q)
    where
      by : IsDone sources cost announced routes (put prefix_cmp q tt []) (without_prefix q rest) q → is_stale sources cost announced routes q ≡ true
      by (inl passed) = sym passed.0 ∙ has_it q
      by (inr ahead) = absurd (false≢true (sym ahead.0 ∙ has_it q))
