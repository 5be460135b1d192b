-- What one more link adds to what a tick changes of the costs.
use Rattle.std.proofs.Common.{◌≡◌, ◌≢◌, ℕ, ◌+◌, ◌<◌, Bool, true, false, cond, not, ◌==◌, [], ◌∷◌, ◌++◌, List, length, take, drop, get_or, filter, Some, None, refl, sym, ap, ◌∙◌}
use Rattle.std.proofs.lemmas.Bool.{eqb-true, eq-eqb}
use Rattle.std.proofs.lemmas.List.{append-nil, map-append, take-append-drop}
use Rattle.std.proofs.lemmas.List.Elements.{filter_more, filter-append, All-head, All-tail}
use Rattle.babel_value.specs.declared.keys.Peer.{Peer}
use Rattle.babel_link.specs.declared.changes.CostChanges.{CostChanges}
use Rattle.babel_link.specs.declared.changes.CostChanges.TheVariants.{Nothing, One, Several}
use Rattle.babel_link.specs.declared.changes.LinkCost.{LinkCost}
use Rattle.babel_link.specs.declared.changes.LinkCost.TheVariants.{Kept, Changed}
use Rattle.babel_link.specs.declared.links.Link.{Link}
use Rattle.babel_link.specs.Links.{ticked_link, link_cost, IsQuietUntil}
use Rattle.babel_link.specs.Neighbours.{Links, gone_of, changed_of, changes_by, cost_changes_of, is_gone, is_cost_changed, peers_of, AreQuietUntil}
use Rattle.babel_link.proofs.TickLemmas.{gone_of-gone}

-- Of one more entry the peer is listed if it passes the test.
peers_more : (test : Peer × Link → Bool) (es : Links) (place : ℕ) (e : Peer × Link) (b : Bool) → place < length es → e ≡ get_or es place e → test e ≡ b →
    peers_of (filter test (take (place + 1) es)) ≡ peers_of (filter test (take place es)) ++ cond b (e.0 ∷ []) []
peers_more test es place e b within read is =
    ap peers_of (filter_more test es place e within ∙ ap (λ (x : Peer × Link). filter test (take place es) ++ cond (test x) (x ∷ []) []) (sym read))
    ∙ map-append (λ (x : Peer × Link). x.0) (filter test (take place es)) (cond (test e) (e ∷ []) [])
    ∙ ap (λ xs. peers_of (filter test (take place es)) ++ xs) (ap (λ t. peers_of (cond t (e ∷ []) [])) is ∙ one b)
  where
    one : (t : Bool) → peers_of (cond t (e ∷ []) []) ≡ cond t (e.0 ∷ []) []
    one true = refl
    one false = refl

-- A neighbour more is flushed.
by_gone : (peer : Peer) (gone later changed : List Peer) → changes_by (gone ++ peer ∷ later) changed ≡ Several
by_gone peer [] later changed = refl
by_gone peer (g ∷ gone) later changed = refl

-- A cost more is changed.
by_first : (peer : Peer) (gone changed : List Peer) → changes_by gone changed ≡ Nothing → changes_by gone (changed ++ peer ∷ []) ≡ One peer
by_first peer [] [] is = refl
by_first peer [] (p ∷ []) is = cc
by_first peer [] (p ∷ q ∷ others) is = cc
by_first peer (g ∷ gone) changed is = cc

by_other : (peer : Peer) (gone changed : List Peer) → changes_by gone changed ≢ Nothing → changes_by gone (changed ++ peer ∷ []) ≡ Several
by_other peer [] [] is = absurd (is refl)
by_other peer [] (p ∷ []) is = refl
by_other peer [] (p ∷ q ∷ others) is = refl
by_other peer (g ∷ gone) changed is = refl

-- Whether the cost of a link that stays is changed.
same_cost : (now : ℕ) (e : Peer × Link) (after : Link) → ticked_link now e.1 ≡ Some after → link_cost 0 after ≡ link_cost 0 e.1 → is_cost_changed now e ≡ false
same_cost now e after stays same = rw stays (ap not (eq-eqb _ _ same))

other_cost : (now : ℕ) (e : Peer × Link) (after : Link) → ticked_link now e.1 ≡ Some after → link_cost 0 after ≢ link_cost 0 e.1 → is_cost_changed now e ≡ true
other_cost now e after stays other = rw stays (by (link_cost 0 after == link_cost 0 e.1) refl)
  where
    by : (b : Bool) → (link_cost 0 after == link_cost 0 e.1) ≡ b → not b ≡ true
    by true is = absurd (other (eqb-true _ _ is))
    by false is = refl

one_is_some : (peer : Peer) → One peer ≢ Nothing
one_is_some peer = λ is. cc

several_is_some : Several ≢ Nothing
several_is_some = λ is. cc

gone_of-append : (now : ℕ) (xs ys : Links) → gone_of now (xs ++ ys) ≡ gone_of now xs ++ gone_of now ys
unfolding gone_of
gone_of-append now xs ys =
    ap peers_of (filter-append (is_gone now) xs ys) ∙ map-append (λ (x : Peer × Link). x.0) (filter (is_gone now) xs) (filter (is_gone now) ys)

-- Before the first link nothing is changed.
pub exact_none : (now : ℕ) → cost_changes_of now [] ≡ Nothing
unfolding cost_changes_of gone_of changed_of
exact_none now = refl

module _ (now : ℕ) (es : Links) (place : ℕ) (e : Peer × Link) (within : place < length es) (read : e ≡ get_or es place e) where
  abbrev gone : List Peer
  gone = gone_of now (take place es)

  abbrev changed : List Peer
  changed = changed_of now (take place es)

  one_more : (goes changes : Bool) → is_gone now e ≡ goes → is_cost_changed now e ≡ changes →
      cost_changes_of now (take (place + 1) es) ≡ changes_by (gone ++ cond goes (e.0 ∷ []) []) (changed ++ cond changes (e.0 ∷ []) [])
  unfolding cost_changes_of gone_of changed_of
  one_more goes changes is_goes is_changes =
      ap (λ xs. changes_by xs (changed_of now (take (place + 1) es))) (peers_more (is_gone now) es place e goes within read is_goes)
      ∙ ap (changes_by (gone ++ cond goes (e.0 ∷ []) [])) (peers_more (is_cost_changed now) es place e changes within read is_changes)

  pub exact_goes : ticked_link now e.1 ≡ None → cost_changes_of now (take (place + 1) es) ≡ Several
  exact_goes goes = one_more true false (rw goes refl) (rw goes refl) ∙ by_gone e.0 gone [] (changed ++ [])

  -- If one link goes, several costs are changed, whatever becomes of the later links.
  pub exact_gone : ticked_link now e.1 ≡ None → cost_changes_of now es ≡ Several
  unfolding cost_changes_of
  exact_gone goes =
      ap (λ xs. changes_by xs (changed_of now es)) (both ∙ ap (λ xs. gone ++ xs) (gone_of-gone now es place e within read goes))
      ∙ by_gone e.0 gone (gone_of now (drop (place + 1) es)) (changed_of now es)
    where
      both : gone_of now es ≡ gone ++ gone_of now (drop place es)
      both = ap (gone_of now) (sym (take-append-drop place es)) ∙ gone_of-append now (take place es) (drop place es)

  pub exact_same : (after : Link) → ticked_link now e.1 ≡ Some after → link_cost 0 after ≡ link_cost 0 e.1 → cost_changes_of now (take (place + 1) es) ≡ cost_changes_of now (take place es)
  unfolding cost_changes_of
  exact_same after stays same =
      one_more false false (rw stays refl) (same_cost now e after stays same)
      ∙ ap (λ xs. changes_by xs (changed ++ [])) (append-nil gone) ∙ ap (changes_by gone) (append-nil changed)

  other_more : (after : Link) → ticked_link now e.1 ≡ Some after → link_cost 0 after ≢ link_cost 0 e.1 → cost_changes_of now (take (place + 1) es) ≡ changes_by gone (changed ++ e.0 ∷ [])
  other_more after stays other =
      one_more false true (rw stays refl) (other_cost now e after stays other)
      ∙ ap (λ xs. changes_by xs (changed ++ e.0 ∷ [])) (append-nil gone)

  pub exact_first : (after : Link) → ticked_link now e.1 ≡ Some after → link_cost 0 after ≢ link_cost 0 e.1 → cost_changes_of now (take place es) ≡ Nothing → cost_changes_of now (take (place + 1) es) ≡ One e.0
  unfolding cost_changes_of
  exact_first after stays other is = other_more after stays other ∙ by_first e.0 gone changed is

  pub exact_other : (after : Link) → ticked_link now e.1 ≡ Some after → link_cost 0 after ≢ link_cost 0 e.1 → cost_changes_of now (take place es) ≢ Nothing → cost_changes_of now (take (place + 1) es) ≡ Several
  unfolding cost_changes_of
  exact_other after stays other known = other_more after stays other ∙ by_other e.0 gone changed known

  -- What is known of the changes before, and what the step added for a link that stays, is exact.
  pub exact_stays : (after : Link) (cost : LinkCost) (before new : CostChanges) → ticked_link now e.1 ≡ Some after →
      (cost ≡ Kept → link_cost 0 after ≡ link_cost 0 e.1) → (cost ≡ Changed → link_cost 0 after ≢ link_cost 0 e.1) →
      (cost ≡ Kept → new ≡ before) → (cost ≡ Changed → before ≡ Nothing → new ≡ One e.0) → (cost ≡ Changed → before ≢ Nothing → new ≡ Several) →
      before ≡ cost_changes_of now (take place es) → new ≡ cost_changes_of now (take (place + 1) es)
  exact_stays after Kept before new stays same other kept first more is = kept refl ∙ is ∙ sym (exact_same after stays (same refl))
  exact_stays after Changed Nothing new stays same other kept first more is = first refl refl ∙ sym (exact_first after stays (other refl) (sym is))
  exact_stays after Changed (One peer) new stays same other kept first more is = more refl (one_is_some peer) ∙ sym (exact_other after stays (other refl) (λ none. one_is_some peer (is ∙ none)))
  exact_stays after Changed Several new stays same other kept first more is = more refl several_is_some ∙ sym (exact_other after stays (other refl) (λ none. several_is_some (is ∙ none)))

-- Before the first deadline nothing is changed.
pub quiet_costs : (now moment : ℕ) → now < moment → (links : Links) → AreQuietUntil moment links → changed_of now links ≡ []
unfolding changed_of
quiet_costs now moment early [] quiet = refl
quiet_costs now moment early (e ∷ es) quiet =
    let first : ticked_link now e.1 ≡ Some e.1 = All-head (λ (x : Peer × Link). IsQuietUntil moment x.1) e es quiet now early in
    rw (same_cost now e e.1 first refl) (quiet_costs now moment early es (All-tail (λ (x : Peer × Link). IsQuietUntil moment x.1) e es quiet))

pub quiet_changes : (now : ℕ) (links : Links) → gone_of now links ≡ [] → changed_of now links ≡ [] → cost_changes_of now links ≡ Nothing
unfolding cost_changes_of
quiet_changes now links gone changed = rw (gone, changed) refl
