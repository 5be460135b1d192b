-- A tick that keeps each link and its cost changes no cost; if it keeps the costs of all links but one, at most that one's.
use Rattle.std.proofs.Common.{◌≡◌, ◌≢◌, ◌≤◌, ℕ, Bool, true, false, cond, [], ◌∷◌, All, Some, length, take, refl, subst, ◌∙◌}
use Rattle.std.specs.FinMap.{find}
use Rattle.std.specs.Option.{option_map_or}
use Rattle.std.specs.Ordering.{eq_by_cmp, is_eq}
use Rattle.std.specs.declared.cmp.Ordering.{Ordering}
use Rattle.std.specs.declared.cmp.Ordering.TheVariants.{Less, Equal, Greater}
use Rattle.std.proofs.lemmas.List.{take_all}
use Rattle.std.proofs.lemmas.List.Elements.{All-head, All-tail, All-weaker}
use Rattle.babel_value.specs.declared.keys.Peer.{Peer}
use Rattle.babel_value.specs.Metrics.{infinity}
use Rattle.babel_value.specs.Orders.{peer_cmp}
use Rattle.babel_value.proofs.OrderLaws.{peer_exact}
use Rattle.babel_link.specs.declared.links.Link.{Link}
use Rattle.babel_link.specs.Links.{ticked_link, link_cost}
use Rattle.babel_link.specs.Neighbours.{Links, tick_of, gone_of, cost_of, KeepsOtherCosts}

-- A walk over all links saw each.
pub all_seen : (P : Peer × Link → Type 0) (place : ℕ) (links : Links) → length links ≤ place → All P (take place links) → All P links
all_seen P place links past all = subst (All P) (take_all place links past) all

module _ (now : ℕ) where
  -- A tick keeps the link and its cost.
  pub record Keeps (e : Peer × Link) : Type 0 where
    pub after : Link
    pub stays : ticked_link now e.1 ≡ Some after
    pub same : (nominal : ℕ) → link_cost nominal after ≡ link_cost nominal e.1

  pub costs_kept : (es : Links) → All Keeps es → (peer : Peer) (nominal : ℕ) → cost_of peer nominal (tick_of now es) ≡ cost_of peer nominal es
  unfolding tick_of cost_of
  costs_kept [] all peer nominal = refl
  costs_kept (e ∷ es) all peer nominal =
      let first : Keeps e = All-head Keeps e es all in
      rw first.stays (by (eq_by_cmp peer_cmp peer e.0) first (costs_kept es (All-tail Keeps e es all) peer nominal))
    where
      by : (b : Bool) (first : Keeps e) →
          option_map_or (link_cost nominal) (find peer_cmp peer (tick_of now es)) infinity ≡ option_map_or (link_cost nominal) (find peer_cmp peer es) infinity →
          option_map_or (link_cost nominal) (cond b (Some first.after) (find peer_cmp peer (tick_of now es))) infinity
          ≡ option_map_or (link_cost nominal) (cond b (Some e.1) (find peer_cmp peer es)) infinity
      by true first rest = first.same nominal
      by false first rest = rest

  pub none_gone : (es : Links) → All Keeps es → gone_of now es ≡ []
  unfolding gone_of
  none_gone [] all = refl
  none_gone (e ∷ es) all =
      let first : Keeps e = All-head Keeps e es all in
      rw first.stays (none_gone es (All-tail Keeps e es all))

  -- A tick keeps the link, and its cost unless it's the one to this neighbour.
  pub record KeepsOther (peer : Peer) (e : Peer × Link) : Type 0 where
    pub after : Link
    pub stays : ticked_link now e.1 ≡ Some after
    pub same : e.0 ≢ peer → (nominal : ℕ) → link_cost nominal after ≡ link_cost nominal e.1

  pub keeps_other : (peer : Peer) (e : Peer × Link) → Keeps e → KeepsOther peer e
  keeps_other peer e keeps = record { after = keeps.after; stays = keeps.stays; same = λ other. keeps.same }

  pub all_keep_other : (peer : Peer) (es : Links) → All Keeps es → All (KeepsOther peer) es
  all_keep_other peer es all = All-weaker Keeps (KeepsOther peer) (keeps_other peer) es all

  -- The link whose cost may change.
  pub changed_stays : (peer : Peer) (e : Peer × Link) (link : Link) → e.0 ≡ peer → ticked_link now e.1 ≡ Some link → KeepsOther peer e
  changed_stays peer e link here stays = record { after = link; stays = stays; same = λ other. absurd (other here) }

  pub other_costs_kept : (peer : Peer) (es : Links) → All (KeepsOther peer) es → KeepsOtherCosts peer es (tick_of now es)
  unfolding tick_of cost_of
  other_costs_kept peer [] all q nominal other = refl
  other_costs_kept peer (e ∷ es) all q nominal other =
      let first : KeepsOther peer e = All-head (KeepsOther peer) e es all in
      rw first.stays (by (peer_cmp q e.0) refl first (other_costs_kept peer es (All-tail (KeepsOther peer) e es all) q nominal other))
    where
      by : (r : Ordering) → peer_cmp q e.0 ≡ r → (first : KeepsOther peer e) →
          option_map_or (link_cost nominal) (find peer_cmp q (tick_of now es)) infinity ≡ option_map_or (link_cost nominal) (find peer_cmp q es) infinity →
          option_map_or (link_cost nominal) (cond (is_eq r) (Some first.after) (find peer_cmp q (tick_of now es))) infinity
          ≡ option_map_or (link_cost nominal) (cond (is_eq r) (Some e.1) (find peer_cmp q es)) infinity
      by Less is first rest = rest
      by Equal is first rest = first.same (λ at. other (peer_exact q e.0 is ∙ at)) nominal
      by Greater is first rest = rest

  pub none_gone_but : (peer : Peer) (es : Links) → All (KeepsOther peer) es → gone_of now es ≡ []
  unfolding gone_of
  none_gone_but peer [] all = refl
  none_gone_but peer (e ∷ es) all =
      let first : KeepsOther peer e = All-head (KeepsOther peer) e es all in
      rw first.stays (none_gone_but peer es (All-tail (KeepsOther peer) e es all))
