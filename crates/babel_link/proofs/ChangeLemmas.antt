-- When two links cost the same, and that a peer costs what it did if its link does.
use Rattle.std.specs.Prelude.{◌≡◌, ◌≤◌, ℕ, Bool, true, false, cond, nat_lt, [], ◌∷◌, ◌||◌, ◌==◌, Option, Some, None, set, if◌then◌else◌}
use Rattle.std.proofs.Common.{get_or, refl, sym, ap, subst, ◌∙◌, arith}
use Rattle.std.proofs.lemmas.Bool.{ltb-false, or_parts}
use Rattle.std.specs.Ordering.{eq_by_cmp}
use Rattle.std.specs.FinMap.{find, put}
use Rattle.std.specs.Option.{option_map_or, unwrap_or}
use Rattle.babel_value.specs.declared.keys.Peer.{Peer}
use Rattle.babel_value.specs.Metrics.{infinity}
use Rattle.babel_value.specs.Orders.{peer_cmp}
use Rattle.babel_link.specs.declared.changes.LinkCost.{LinkCost}
use Rattle.babel_link.specs.declared.changes.LinkCost.TheVariants.{Kept, Changed}
use Rattle.babel_link.specs.declared.links.Link.{Link}
use Rattle.babel_link.specs.Links.{new_link, is_up_history, link_rxcost, link_cost}
use Rattle.babel_link.specs.Neighbours.{Links, link_of, cost_of, has_finite_link}
use Rattle.babel_link.specs.Places.{IsPlaceOf}
use Rattle.babel_link.proofs.LookUpLemmas.{find-put_own}

-- The nominal cost only makes a cost infinite, or not.
cost_by_nominal : (nominal : ℕ) (link : Link) → link_cost nominal link ≡ (if nominal == infinity then infinity else link_cost 0 link)
unfolding link_cost link_rxcost
cost_by_nominal nominal link = by (is_up_history link.multicast || is_up_history link.unicast)
  where
    either : (b : Bool) → infinity ≡ (if b then infinity else infinity)
    either true = refl
    either false = refl

    by : (up : Bool) →
        (if (if up then nominal else infinity) == infinity then infinity else link.txcost)
        ≡ (if nominal == infinity then infinity else if (if up then 0 else infinity) == infinity then infinity else link.txcost)
    by true = refl
    by false = either (nominal == infinity)

pub same_costs : (one other : Link) → link_cost 0 one ≡ link_cost 0 other → (nominal : ℕ) → link_cost nominal one ≡ link_cost nominal other
same_costs one other same nominal =
    cost_by_nominal nominal one ∙ ap (λ cost. if nominal == infinity then infinity else cost) same ∙ sym (cost_by_nominal nominal other)

-- A link that costs infinity over an interface of nominal cost 0 does so over each.
costly_at_any : (link : Link) → nat_lt (link_cost 0 link) infinity ≡ false → (nominal : ℕ) → infinity ≤ link_cost nominal link
costly_at_any link none nominal = subst (λ cost. infinity ≤ cost) (sym (cost_by_nominal nominal link)) (by (nominal == infinity))
  where
    by : (b : Bool) → infinity ≤ (if b then infinity else link_cost 0 link)
    by true = omega arith
    by false = ltb-false (link_cost 0 link) infinity none

pub all_costly : (links : Links) → has_finite_link links ≡ false → (peer : Peer) (nominal : ℕ) → infinity ≤ cost_of peer nominal links
unfolding cost_of
all_costly [] none peer nominal = omega arith
all_costly (e ∷ es) none peer nominal =
    let parts = or_parts (nat_lt (link_cost 0 e.1) infinity) (has_finite_link es) none in
    by (eq_by_cmp peer_cmp peer e.0) (costly_at_any e.1 parts.0 nominal) (all_costly es parts.1 peer nominal)
  where
    by : (b : Bool) → infinity ≤ link_cost nominal e.1 → infinity ≤ option_map_or (link_cost nominal) (find peer_cmp peer es) infinity → infinity ≤ option_map_or (link_cost nominal) (cond b (Some e.1) (find peer_cmp peer es)) infinity
    by true here rest = here
    by false here rest = rest

-- A peer that is no neighbour costs what one costs of which nothing is known.
cost_of_known : (nominal : ℕ) (known : Option Link) → option_map_or (link_cost nominal) known infinity ≡ link_cost nominal (unwrap_or known new_link)
unfolding link_cost link_rxcost
cost_of_known nominal None = refl
cost_of_known nominal (Some link) = refl

pub put_cost_kept : (peer : Peer) (before after : Link) (links : Links) → before ≡ link_of peer links →
    ((nominal : ℕ) → link_cost nominal after ≡ link_cost nominal before) →
    (nominal : ℕ) → cost_of peer nominal (put peer_cmp peer after links) ≡ cost_of peer nominal links
unfolding cost_of
put_cost_kept peer before after links is same nominal =
    ap (λ o. option_map_or (link_cost nominal) o infinity) (find-put_own peer after links)
    ∙ same nominal ∙ ap (link_cost nominal) is ∙ sym (cost_of_known nominal (find peer_cmp peer links))

-- The peer costs what it did only if its link does.
pub put_cost_same : (peer : Peer) (before after : Link) (links : Links) → before ≡ link_of peer links → (nominal : ℕ) →
    cost_of peer nominal (put peer_cmp peer after links) ≡ cost_of peer nominal links → link_cost nominal after ≡ link_cost nominal before
unfolding cost_of
put_cost_same peer before after links is nominal same =
    sym (ap (λ o. option_map_or (link_cost nominal) o infinity) (find-put_own peer after links)) ∙ same
    ∙ cost_of_known nominal (find peer_cmp peer links) ∙ sym (ap (link_cost nominal) is)

-- The same, if the link is written at the peer's place.
module _ (peer : Peer) (links : Links) (place : ℕ) (entry : Peer × Link) (after : Link) (here : IsPlaceOf peer links place) (read : entry ≡ get_or links place entry) where
  written : put peer_cmp peer after links ≡ set links place (entry.0, after)
  written = here.written after entry ∙ ap (λ (e : Peer × Link). set links place (e.0, after)) (sym read)

  known : entry.1 ≡ link_of peer links
  known = ap (λ (e : Peer × Link). e.1) read ∙ ap (λ o. unwrap_or o new_link) (sym (here.found entry))

  pub written_cost_kept : ((nominal : ℕ) → link_cost nominal after ≡ link_cost nominal entry.1) →
      (nominal : ℕ) → cost_of peer nominal (set links place (entry.0, after)) ≡ cost_of peer nominal links
  written_cost_kept same nominal =
      subst (λ (ls : Links). cost_of peer nominal ls ≡ cost_of peer nominal links) written (put_cost_kept peer entry.1 after links known same nominal)

  pub written_cost_same : (nominal : ℕ) → cost_of peer nominal (set links place (entry.0, after)) ≡ cost_of peer nominal links → link_cost nominal after ≡ link_cost nominal entry.1
  written_cost_same nominal same =
      put_cost_same peer entry.1 after links known nominal (ap (cost_of peer nominal) written ∙ same)

-- A cost isn't both kept and changed.
pub not_both : (cost : LinkCost) → cost ≡ Kept → cost ≡ Changed → ⊥
not_both cost kept changed = cc
