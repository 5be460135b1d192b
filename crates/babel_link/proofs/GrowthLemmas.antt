-- A tick leaves the cost of each link, or makes it infinite, and it makes that of each neighbour that it flushes infinite.
use Rattle.std.proofs.Common.{◌≡◌, ◌⊎◌, ℕ, Bool, true, false, cond, eqb, [], ◌∷◌, All, Option, Some, None, filter, refl, sym, ◌∙◌, inl, inr}
use Rattle.std.specs.FinMap.{find, is_sorted}
use Rattle.std.specs.FinMap.Entries.{below_all, find_tied}
use Rattle.std.specs.Cmp.{tied_itself, second_so, first_so}
use Rattle.std.specs.Option.{option_map_or, option_and_then}
use Rattle.std.specs.Ordering.{is_eq}
use Rattle.std.specs.declared.cmp.Ordering.{Ordering}
use Rattle.std.specs.declared.cmp.Ordering.TheVariants.{Less, Equal, Greater}
use Rattle.std.proofs.lemmas.Bool.{cond_both}
use Rattle.std.proofs.lemmas.List.Elements.{All-nil, All-cons, All-weaker}
use Rattle.babel_value.specs.declared.keys.Peer.{Peer}
use Rattle.babel_value.specs.Metrics.{infinity}
use Rattle.babel_value.specs.Orders.{peer_cmp}
use Rattle.babel_value.proofs.OrderLaws.{peer_total}
use Rattle.babel_link.specs.declared.links.Link.{Link}
use Rattle.babel_link.specs.Links.{ticked_link, link_rxcost, link_cost, is_txcost_due}
use Rattle.babel_link.specs.Neighbours.{Links, tick_of, gone_of, is_gone, peers_of, cost_of, CostsOnlyGrow, AreLost}
use Rattle.babel_link.proofs.LookUpLemmas.{absent_below, find-tick_of}
use Rattle.babel_link.proofs.SilenceLemmas.{is_up_link, ticked_from}

-- The cost of a link with this txcost over an interface of this nominal cost. The truth value means
-- that a history of the link is up.
abbrev cost_by : ℕ → Bool → ℕ → ℕ
cost_by nominal up txcost = cond (eqb (cond up nominal infinity) infinity) infinity txcost

grows_by : (nominal : ℕ) (before after due : Bool) (txcost : ℕ) → (before ≡ false → after ≡ false) →
    (cost_by nominal after (cond due infinity txcost) ≡ cost_by nominal before txcost) ⊎ (cost_by nominal after (cond due infinity txcost) ≡ infinity)
grows_by nominal before false due txcost down = inr refl
grows_by nominal false true due txcost down = cc (down refl)
grows_by nominal true true false txcost down = inl refl
grows_by nominal true true true txcost down = inr (cond_both (eqb nominal infinity) infinity infinity (λ cost. cost ≡ infinity) (λ _. refl) (λ _. refl))

-- The cost of what is known of a peer is as before or infinite.
abbrev Grows : ℕ → Option Link → Option Link → Type 0
Grows nominal old new =
    (option_map_or (link_cost nominal) new infinity ≡ option_map_or (link_cost nominal) old infinity) ⊎ (option_map_or (link_cost nominal) new infinity ≡ infinity)

link_grows : (now nominal : ℕ) (link after : Link) → ticked_link now link ≡ Some after → Grows nominal (Some link) (Some after)
unfolding link_cost link_rxcost
link_grows now nominal link after ticked =
    let from = ticked_from now link after ticked in
    rw from.txcost (grows_by nominal (is_up_link link) (is_up_link after) (is_txcost_due now link) link.txcost from.down)

pub stays_infinite : (now : ℕ) (link after : Link) → ticked_link now link ≡ Some after → link_cost 0 link ≡ infinity → link_cost 0 after ≡ link_cost 0 link
stays_infinite now link after ticked lost = by (link_grows now 0 link after ticked)
  where
    by : Grows 0 (Some link) (Some after) → link_cost 0 after ≡ link_cost 0 link
    by (inl same) = same
    by (inr infinite) = infinite ∙ sym lost

pub costs_only_grow : (now : ℕ) (es : Links) → is_sorted peer_cmp es ≡ true → CostsOnlyGrow es (tick_of now es)
unfolding cost_of
costs_only_grow now es sorted peer nominal = rw (find-tick_of now peer es sorted) (by (find peer_cmp peer es))
  where
    kept : (link : Link) (t : Option Link) → ticked_link now link ≡ t → Grows nominal (Some link) t
    kept link None ticked = inr refl
    kept link (Some after) ticked = link_grows now nominal link after ticked

    by : (known : Option Link) → Grows nominal known (option_and_then (ticked_link now) known)
    by None = inl refl
    by (Some link) = kept link (ticked_link now link) refl

-- The peer is a neighbour that the tick flushes.
record IsFlushed (now : ℕ) (es : Links) (peer : Peer) : Type 0 where
  link : Link
  found : find peer_cmp peer es ≡ Some link
  goes : ticked_link now link ≡ None

flushed_later : (now : ℕ) (e : Peer × Link) (es : Links) → below_all peer_cmp e.0 es ≡ true → (peer : Peer) → IsFlushed now es peer → IsFlushed now (e ∷ es) peer
flushed_later now e es below peer flushed = record { link = flushed.link; found = by (peer_cmp peer e.0) refl; goes = flushed.goes }
  where
    by : (r : Ordering) → peer_cmp peer e.0 ≡ r → cond (is_eq r) (Some e.1) (find peer_cmp peer es) ≡ Some flushed.link
    by Less is = flushed.found
    by Equal is = (let none : Some flushed.link ≡ None = sym flushed.found ∙ sym (find_tied peer_cmp peer_total peer e.0 is es) ∙ absent_below e.0 es below in cc)
    by Greater is = flushed.found

all_flushed : (now : ℕ) (es : Links) → is_sorted peer_cmp es ≡ true → All (IsFlushed now es) (gone_of now es)
unfolding gone_of
all_flushed now [] sorted = All-nil (IsFlushed now [])
all_flushed now (e ∷ es) sorted =
    let below : below_all peer_cmp e.0 es ≡ true = first_so (below_all peer_cmp e.0 es) _ sorted in
    let rest = All-weaker (IsFlushed now es) (IsFlushed now (e ∷ es)) (flushed_later now e es below) _ (all_flushed now es (second_so (below_all peer_cmp e.0 es) _ sorted)) in
    by (ticked_link now e.1) refl rest
  where
    by : (t : Option Link) → ticked_link now e.1 ≡ t → All (IsFlushed now (e ∷ es)) (peers_of (filter (is_gone now) es)) → All (IsFlushed now (e ∷ es)) (peers_of (filter (is_gone now) (e ∷ es)))
    by None goes rest = rw goes (All-cons (IsFlushed now (e ∷ es)) e.0 _ (record { link = e.1; found = rw (tied_itself peer_total e.0) refl; goes = goes }) rest)
    by (Some after) stays rest = rw stays rest

pub gone_are_lost : (now : ℕ) (es : Links) → is_sorted peer_cmp es ≡ true → AreLost (gone_of now es) (tick_of now es)
unfolding cost_of
gone_are_lost now es sorted =
    All-weaker (IsFlushed now es) (λ peer. (nominal : ℕ) → cost_of peer nominal (tick_of now es) ≡ infinity)
    (λ peer flushed nominal. rw (find-tick_of now peer es sorted, flushed.found, flushed.goes) refl) (gone_of now es) (all_flushed now es sorted)
