-- One more neighbour that a tick takes, and what a tick leaves of the order.
use Rattle.std.proofs.Common.{◌≡◌, ℕ, suc, ◌+◌, ◌<◌, ◌≤◌, Bool, true, false, cond, ◌&&◌, List, [], ◌∷◌, ◌++◌, length, filter, get_or, set, take, drop, Some, None, refl, sym, ap, ◌∙◌, arith, add-one, append_assoc}
use Rattle.std.specs.List.{cons_option, list_all}
use Rattle.std.specs.Option.{option_map}
use Rattle.std.specs.Ordering.{is_lt}
use Rattle.std.specs.Cmp.{first_so, second_so}
use Rattle.std.specs.FinMap.{is_sorted}
use Rattle.std.specs.FinMap.Entries.{below_all}
use Rattle.std.proofs.Math.Seq.{drop-cons}
use Rattle.std.proofs.lemmas.List.{get_or-drop, get_or-set_same, set-set, take-set, drop-set-lt, drop-drop, take_more_set, drop_all, append-nil}
use Rattle.babel_value.specs.declared.keys.Peer.{Peer}
use Rattle.babel_value.specs.Orders.{peer_cmp}
use Rattle.babel_link.specs.declared.links.Link.{Link}
use Rattle.babel_link.specs.Links.{ticked_link}
use Rattle.babel_link.specs.Neighbours.{Links, tick_of, gone_of, is_gone, peers_of, are_ascending}

module _ (now : ℕ) (es : Links) (i : ℕ) (e : Peer × Link) (within : i < length es) (read : e ≡ get_or es i e) where
  -- The entry at place i is the first of those from there on.
  drop-read : drop i es ≡ e ∷ drop (i + 1) es
  drop-read = rw add-one (drop-cons es i e within ∙ ap (λ (x : Peer × Link). x ∷ drop (suc i) es) (sym read))

  pub tick_of-kept : (link : Link) → ticked_link now e.1 ≡ Some link → tick_of now (drop i es) ≡ (e.0, link) ∷ tick_of now (drop (i + 1) es)
  unfolding tick_of
  tick_of-kept link stays = rw (drop-read, stays) refl

  pub tick_of-gone : ticked_link now e.1 ≡ None → tick_of now (drop i es) ≡ tick_of now (drop (i + 1) es)
  unfolding tick_of
  tick_of-gone goes = rw (drop-read, goes) refl

  pub gone_of-kept : (link : Link) → ticked_link now e.1 ≡ Some link → gone_of now (drop i es) ≡ gone_of now (drop (i + 1) es)
  unfolding gone_of
  gone_of-kept link stays = rw (drop-read, stays) refl

  pub gone_of-gone : ticked_link now e.1 ≡ None → gone_of now (drop i es) ≡ e.0 ∷ gone_of now (drop (i + 1) es)
  unfolding gone_of
  gone_of-gone goes = rw (drop-read, goes) refl

  -- The entry is written after the others that stay, with the link as the tick left it.
  module _ (kept : ℕ) (late : kept ≤ i) (link : Link) where
    later : drop (i + 1) (set es kept (e.0, link)) ≡ drop (i + 1) es
    later = drop-set-lt (i + 1) es kept (e.0, link) (omega arith)

    -- If it stays, it's one more of those that stay, and nothing is added to those that are gone.
    pub stays_more : (whole : Links) → ticked_link now e.1 ≡ Some link → take kept es ++ tick_of now (drop i es) ≡ whole → take (kept + 1) (set es kept (e.0, link)) ++ tick_of now (drop (i + 1) (set es kept (e.0, link))) ≡ whole
    stays_more whole stays so_far =
        rw (take_more_set es kept (e.0, link) (omega arith), later, append_assoc)
        (ap (λ rest. take kept es ++ rest) (sym (tick_of-kept link stays)) ∙ so_far)

    pub goes_same : (gone whole : List Peer) → ticked_link now e.1 ≡ Some link → gone ++ gone_of now (drop i es) ≡ whole → gone ++ gone_of now (drop (i + 1) (set es kept (e.0, link))) ≡ whole
    goes_same gone whole stays so_far = rw later (ap (λ rest. gone ++ rest) (sym (gone_of-kept link stays)) ∙ so_far)

    -- If it goes, it's none of those that stay, and the next that is gone.
    pub stays_same : (whole : Links) → ticked_link now e.1 ≡ None → take kept es ++ tick_of now (drop i es) ≡ whole → take kept (set es kept (e.0, link)) ++ tick_of now (drop (i + 1) (set es kept (e.0, link))) ≡ whole
    stays_same whole goes so_far =
        rw (take-set es kept (e.0, link), later) (ap (λ rest. take kept es ++ rest) (sym (tick_of-gone goes)) ∙ so_far)

    pub goes_more : (gone whole : List Peer) → ticked_link now e.1 ≡ None → gone ++ gone_of now (drop i es) ≡ whole → (gone ++ e.0 ∷ []) ++ gone_of now (drop (i + 1) (set es kept (e.0, link))) ≡ whole
    goes_more gone whole goes so_far = rw (append_assoc, later) (ap (λ rest. gone ++ rest) (sym (gone_of-gone goes)) ∙ so_far)

    -- The entries that are still to tick are those that were there at first.
    pub rest_more : (old : Links) → drop i es ≡ drop i old → drop (i + 1) (set es kept (e.0, link)) ≡ drop (i + 1) old
    rest_more old same = later ∙ sym (drop-drop 1 i es) ∙ ap (drop 1) same ∙ drop-drop 1 i old

  pub read_old : (old : Links) → drop i es ≡ drop i old → e ≡ get_or old i e
  read_old old same = read ∙ sym (first es) ∙ ap (λ (xs : Links). get_or xs 0 e) same ∙ first old
    where
      first : (xs : Links) → get_or (drop i xs) 0 e ≡ get_or xs i e
      first xs = let at : i + 0 ≡ i = omega arith in get_or-drop i xs 0 e ∙ ap (λ (place : ℕ). get_or xs place e) at

-- An entry that was moved down, and then written there.
module _ (es moved : Links) (i kept : ℕ) (within : kept < length es) (down : (d : Peer × Link) → moved ≡ set es kept (get_or es i d)) (e : Peer × Link) (read : e ≡ get_or moved kept e) where
  pub read_moved : e ≡ get_or es i e
  read_moved = read ∙ ap (λ (xs : Links). get_or xs kept e) (down e) ∙ get_or-set_same es kept (get_or es i e) e within

  pub written_moved : (link : Link) → set moved kept (e.0, link) ≡ set es kept (e.0, link)
  written_moved link = ap (λ (xs : Links). set xs kept (e.0, link)) (down e) ∙ set-set es kept (get_or es i e) (e.0, link)

-- Nothing is left to tick at the end.
pub tick_of-none : (now : ℕ) → tick_of now [] ≡ []
unfolding tick_of
tick_of-none now = refl

pub gone_of-none : (now : ℕ) → gone_of now [] ≡ []
unfolding gone_of
gone_of-none now = refl

module _ (now : ℕ) (es : Links) (i : ℕ) (past : length es ≤ i) where
  pub stays_all : (before whole : Links) → before ++ tick_of now (drop i es) ≡ whole → before ≡ whole
  stays_all before whole so_far =
      let rest : tick_of now (drop i es) ≡ [] = ap (tick_of now) (drop_all i es past) ∙ tick_of-none now in
      sym (append-nil before) ∙ ap (λ xs. before ++ xs) (sym rest) ∙ so_far

  pub goes_all : (gone whole : List Peer) → gone ++ gone_of now (drop i es) ≡ whole → gone ≡ whole
  goes_all gone whole so_far =
      let rest : gone_of now (drop i es) ≡ [] = ap (gone_of now) (drop_all i es past) ∙ gone_of-none now in
      sym (append-nil gone) ∙ ap (λ xs. gone ++ xs) (sym rest) ∙ so_far

-- ---- the order

both : (a b : Bool) → a ≡ true → b ≡ true → (a && b) ≡ true
both true b p q = q
both false b p q = cc

module _ (now : ℕ) where
  pub below-tick_of : (p : Peer) (es : Links) → below_all peer_cmp p es ≡ true → below_all peer_cmp p (tick_of now es) ≡ true
  unfolding tick_of
  below-tick_of p [] below = refl
  below-tick_of p (e ∷ es) below =
      let rest = below-tick_of p es (second_so (is_lt (peer_cmp p e.0)) _ below) in
      elim (ticked_link now e.1) as (λ t. below_all peer_cmp p (cons_option (option_map (λ link. (e.0, link)) t) (tick_of now es)) ≡ true) [
        | None ↦ rest
        | Some link ↦ both _ _ (first_so (is_lt (peer_cmp p e.0)) _ below) rest
      ]

  -- A tick keeps the order.
  pub is_sorted-tick_of : (es : Links) → is_sorted peer_cmp es ≡ true → is_sorted peer_cmp (tick_of now es) ≡ true
  unfolding tick_of
  is_sorted-tick_of [] sorted = refl
  is_sorted-tick_of (e ∷ es) sorted =
      let rest = is_sorted-tick_of es (second_so (below_all peer_cmp e.0 es) _ sorted) in
      let below = below-tick_of e.0 es (first_so (below_all peer_cmp e.0 es) _ sorted) in
      elim (ticked_link now e.1) as (λ t. is_sorted peer_cmp (cons_option (option_map (λ link. (e.0, link)) t) (tick_of now es)) ≡ true) [
        | None ↦ rest
        | Some link ↦ both _ _ below rest
      ]

  below-gone_of : (p : Peer) (es : Links) → below_all peer_cmp p es ≡ true → list_all (λ q. is_lt (peer_cmp p q)) (gone_of now es) ≡ true
  unfolding gone_of
  below-gone_of p [] below = refl
  below-gone_of p (e ∷ es) below =
      let rest = below-gone_of p es (second_so (is_lt (peer_cmp p e.0)) _ below) in
      elim (is_gone now e) as (λ t. list_all (λ q. is_lt (peer_cmp p q)) (peers_of (cond t (e ∷ filter (is_gone now) es) (filter (is_gone now) es))) ≡ true) [
        | true ↦ both _ _ (first_so (is_lt (peer_cmp p e.0)) _ below) rest
        | false ↦ rest
      ]

  -- The neighbours that go are in order too.
  pub are_ascending-gone_of : (es : Links) → is_sorted peer_cmp es ≡ true → are_ascending (gone_of now es) ≡ true
  unfolding gone_of
  are_ascending-gone_of [] sorted = refl
  are_ascending-gone_of (e ∷ es) sorted =
      let rest = are_ascending-gone_of es (second_so (below_all peer_cmp e.0 es) _ sorted) in
      let below = below-gone_of e.0 es (first_so (below_all peer_cmp e.0 es) _ sorted) in
      elim (is_gone now e) as (λ t. are_ascending (peers_of (cond t (e ∷ filter (is_gone now) es) (filter (is_gone now) es))) ≡ true) [
        | true ↦ both _ _ below rest
        | false ↦ rest
      ]
