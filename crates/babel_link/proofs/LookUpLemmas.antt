-- What look-ups give after each change of the neighbours.
use Rattle.std.proofs.Common.{◌≡◌, ◌≢◌, ℕ, true, cond, [], ◌∷◌, Some, None, refl, sym, ◌∙◌}
use Rattle.std.specs.List.{cons_option}
use Rattle.std.specs.Option.{option_map, option_and_then}
use Rattle.std.specs.declared.cmp.Ordering.TheVariants.{Less, Equal, Greater}
use Rattle.std.specs.Ordering.{is_lt, is_eq}
use Rattle.std.specs.Cmp.{tied_itself, first_so, second_so}
use Rattle.std.specs.FinMap.{find, put, is_sorted}
use Rattle.std.specs.FinMap.Entries.{below_all, find-put, find_tied}
use Rattle.babel_value.specs.declared.keys.Peer.{Peer}
use Rattle.babel_value.specs.Orders.{peer_cmp}
use Rattle.babel_value.proofs.OrderLaws.{peer_total, peer_exact}
use Rattle.babel_value.proofs.Orderings.{less}
use Rattle.babel_link.specs.declared.links.Link.{Link}
use Rattle.babel_link.specs.Links.{ticked_link}
use Rattle.babel_link.specs.Neighbours.{Links, tick_of}
use Rattle.babel_link.proofs.TickLemmas.{below-tick_of}

pub find-put_own : (peer : Peer) (link : Link) (links : Links) → find peer_cmp peer (put peer_cmp peer link links) ≡ Some link
find-put_own peer link links = find-put peer_cmp peer_total peer peer link links ∙ rw (tied_itself peer_total peer) refl

pub find-put_other : (q peer : Peer) (link : Link) (links : Links) → q ≢ peer → find peer_cmp q (put peer_cmp peer link links) ≡ find peer_cmp q links
find-put_other q peer link links differ =
    find-put peer_cmp peer_total q peer link links
    ∙ elim (peer_cmp q peer) as (λ r. peer_cmp q peer ≡ r → cond (is_eq r) (Some link) (find peer_cmp q links) ≡ find peer_cmp q links) [
      | Less ↦ λ p. refl
      | Equal ↦ λ p. absurd (differ (peer_exact q peer p))
      | Greater ↦ λ p. refl
    ] refl

pub absent_below : (p : Peer) (es : Links) → below_all peer_cmp p es ≡ true → find peer_cmp p es ≡ None
absent_below p [] below = refl
absent_below p (e ∷ es) below =
    rw (less _ (first_so (is_lt (peer_cmp p e.0)) _ below)) (absent_below p es (second_so (is_lt (peer_cmp p e.0)) _ below))

pub find-tick_of : (now : ℕ) (q : Peer) (es : Links) → is_sorted peer_cmp es ≡ true → find peer_cmp q (tick_of now es) ≡ option_and_then (ticked_link now) (find peer_cmp q es)
unfolding tick_of
find-tick_of now q [] sorted = refl
find-tick_of now q (e ∷ es) sorted =
    let rest = find-tick_of now q es (second_so (below_all peer_cmp e.0 es) _ sorted) in
    let below = below-tick_of now e.0 es (first_so (below_all peer_cmp e.0 es) _ sorted) in
    let own : peer_cmp q e.0 ≡ Equal → find peer_cmp q (tick_of now es) ≡ None =
    λ p. sym (find_tied peer_cmp peer_total q e.0 p (tick_of now es)) ∙ absent_below e.0 (tick_of now es) below in
    elim (peer_cmp q e.0) as (λ r. peer_cmp q e.0 ≡ r → find peer_cmp q (cons_option (option_map (λ link. (e.0, link)) (ticked_link now e.1)) (tick_of now es)) ≡ option_and_then (ticked_link now) (cond (is_eq r) (Some e.1) (find peer_cmp q es))) [
      | Equal ↦ λ p. elim (ticked_link now e.1) as (λ t. find peer_cmp q (cons_option (option_map (λ link. (e.0, link)) t) (tick_of now es)) ≡ t) [
        | None ↦ own p
        | Some link ↦ rw p refl
      ]
      | Less ↦ λ p. elim (ticked_link now e.1) as (λ t. find peer_cmp q (cons_option (option_map (λ link. (e.0, link)) t) (tick_of now es)) ≡ option_and_then (ticked_link now) (find peer_cmp q es)) [
        | None ↦ rest
        | Some link ↦ rw p rest
      ]
      | Greater ↦ λ p. elim (ticked_link now e.1) as (λ t. find peer_cmp q (cons_option (option_map (λ link. (e.0, link)) t) (tick_of now es)) ≡ option_and_then (ticked_link now) (find peer_cmp q es)) [
        | None ↦ rest
        | Some link ↦ rw p rest
      ]
    ] refl
