-- Before the first deadline a tick changes nothing.
use Rattle.std.proofs.Common.{◌≡◌, ℕ, ◌<◌, ◌≤◌, ◌+◌, false, leb, [], ◌∷◌, length, set, take, Option, Some, None, refl, arith}
use Rattle.std.specs.List.{insert}
use Rattle.std.specs.Option.{option_and_then}
use Rattle.std.proofs.lemmas.Bool.Decides.{nat_tests}
use Rattle.std.proofs.lemmas.List.{take_more_set}
use Rattle.std.proofs.lemmas.List.Elements.{All-append, All-cons, All-take, All-drop, All-set, All-push, All-head, All-tail, All-weaker}
use Rattle.babel_value.specs.declared.keys.Peer.{Peer}
use Rattle.babel_link.specs.declared.links.Timer.{Timer}
use Rattle.babel_link.specs.declared.links.History.{History}
use Rattle.babel_link.specs.declared.links.Link.{Link}
use Rattle.babel_link.specs.Links.{fired_history, fired_link, expired_link, ticked_link, is_txcost_due, IsQuietUntil}
use Rattle.babel_link.specs.Neighbours.{Links, tick_of, gone_of, AreQuietUntil}

module _ (now : ℕ) (history : Option History) (h : History) (is : history ≡ Some h) where
  pub not_fired : (timer : Timer) → h.timer ≡ Some timer → now < timer.due → option_and_then (fired_history now) history ≡ None
  unfolding fired_history
  not_fired timer timed early =
      let later : leb timer.due now ≡ false = grind (arith, nat_tests) in
      rw (is, timed, later) refl

  pub not_timed : h.timer ≡ None → option_and_then (fired_history now) history ≡ None
  unfolding fired_history
  not_timed untimed = rw (is, untimed) refl

-- No deadline is due.
pub quiet_link : (now : ℕ) (link : Link) → option_and_then (fired_history now) link.multicast ≡ None → option_and_then (fired_history now) link.unicast ≡ None → is_txcost_due now link ≡ false → ticked_link now link ≡ Some link
unfolding ticked_link fired_link expired_link
quiet_link now link multicast unicast txcost = rw (multicast, unicast, txcost) refl

pub quiet_earlier : (moment earlier : ℕ) (link : Link) → earlier ≤ moment → IsQuietUntil moment link → IsQuietUntil earlier link
quiet_earlier moment earlier link before quiet = λ now early. quiet now (omega arith)

pub are_quiet_earlier : (moment earlier : ℕ) (links : Links) → earlier ≤ moment → AreQuietUntil moment links → AreQuietUntil earlier links
are_quiet_earlier moment earlier links before quiet =
    All-weaker (λ e. IsQuietUntil moment e.1) (λ e. IsQuietUntil earlier e.1) (λ e q. quiet_earlier moment earlier e.1 before q) links quiet

pub quiet_set : (moment : ℕ) (links : Links) (place : ℕ) (peer : Peer) (link : Link) → IsQuietUntil moment link → AreQuietUntil moment links → AreQuietUntil moment (set links place (peer, link))
quiet_set moment links place peer link one all = All-set (λ e. IsQuietUntil moment e.1) links place (peer, link) one all

pub quiet_insert : (moment : ℕ) (links : Links) (place : ℕ) (peer : Peer) (link : Link) → IsQuietUntil moment link → AreQuietUntil moment links → AreQuietUntil moment (insert links place (peer, link))
quiet_insert moment links place peer link one all =
    let P : Peer × Link → Type 0 = λ e. IsQuietUntil moment e.1 in
    All-append P _ _ (All-take P place links all) (All-cons P (peer, link) _ one (All-drop P place links all))

-- One more link is kept by a tick.
pub quiet_kept : (moment : ℕ) (links : Links) (kept : ℕ) (peer : Peer) (link : Link) → kept < length links → IsQuietUntil moment link → AreQuietUntil moment (take kept links) → AreQuietUntil moment (take (kept + 1) (set links kept (peer, link)))
quiet_kept moment links kept peer link within one all =
    let P : Peer × Link → Type 0 = λ e. IsQuietUntil moment e.1 in
    rw (take_more_set links kept (peer, link) within) (All-push P (take kept links) (peer, link) all one)

-- A tick before the moment leaves all neighbours as they are, and none goes.
module _ (now moment : ℕ) (early : now < moment) where
  pub quiet_tick : (links : Links) → AreQuietUntil moment links → tick_of now links ≡ links
  unfolding tick_of
  quiet_tick [] quiet = refl
  quiet_tick (e ∷ es) quiet =
      let first : ticked_link now e.1 ≡ Some e.1 = All-head (λ x. IsQuietUntil moment x.1) e es quiet now early in
      rw (first, quiet_tick es (All-tail (λ x. IsQuietUntil moment x.1) e es quiet)) refl

  pub quiet_gone : (links : Links) → AreQuietUntil moment links → gone_of now links ≡ []
  unfolding gone_of
  quiet_gone [] quiet = refl
  quiet_gone (e ∷ es) quiet =
      let first : ticked_link now e.1 ≡ Some e.1 = All-head (λ x. IsQuietUntil moment x.1) e es quiet now early in
      rw first (quiet_gone es (All-tail (λ x. IsQuietUntil moment x.1) e es quiet))
