-- What follows from a reselection changes requests and pending items alone.
use Rattle.std.specs.Prelude.{◌≡◌, ℕ, Bool, true, false, List, [], ◌∷◌, Option, Some, None, if◌then◌else◌}
use Rattle.std.specs.Option.{option_map_or}
use Rattle.std.proofs.Common.{refl, ◌∙◌, ap}
use Rattle.babel_value.specs.declared.keys.Peer.{Peer}
use Rattle.babel_value.specs.declared.keys.Source.{Source}
use Rattle.babel_value.specs.Prefixes.{PrefixValue}
use Rattle.babel_choice.specs.declared.entries.Selection.{Selection}
use Rattle.babel_state.specs.declared.items.Item.{Item}
use Rattle.babel_state.specs.declared.requests.Resend.{Resend}
use Rattle.babel_state.specs.PendingRequests.{PendingRequests}
use Rattle.babel_state.specs.State.{State, routed_prefixes, selected_at, pair_at}
use Rattle.babel_state.specs.Reselection.{UnfeasibleUpdate, queue, request_seqno, request_for_update, request_from_sender, request_for_seqno, advertise_change, follow_up, select, reselect, reselect_each, reselect_all}
use Rattle.babel_state.specs.StepLaws.{kept_of, base_of, ReselectionKeepsBase, ReselectionOfAllKeepsBase}

pub if_kept : (b : Bool) (x y o : State) → kept_of x ≡ o → kept_of y ≡ o → kept_of (if b then x else y) ≡ o
if_kept true x y o p q = p
if_kept false x y o p q = q

option_kept : {A : Type 0} (f : A → State) (m : Option A) (d o : State) → ((a : A) → kept_of (f a) ≡ o) → kept_of d ≡ o → kept_of (option_map_or f m d) ≡ o
option_kept f None d o p q = q
option_kept f (Some a) d o p q = p a

pub queue_kept : (xs : List Item) (s : State) → kept_of (queue xs s) ≡ kept_of s
unfolding kept_of
queue_kept xs s = refl

pub requests_kept : (s : State) (requests : PendingRequests) → kept_of (record s { requests = requests }) ≡ kept_of s
unfolding kept_of
requests_kept s requests = refl

pub asks_kept : (now : ℕ) (source : Source) (seqno : ℕ) (resend : Resend) (hops : ℕ) (peers : List Peer) (s : State) → kept_of (request_seqno now source seqno resend hops peers s) ≡ kept_of s
unfolding request_seqno
asks_kept now source seqno resend hops peers s = if_kept _ _ _ _ refl (queue_kept _ _ ∙ requests_kept s _)

advertise_kept : (prefix : PrefixValue) (old new : Option Selection) (s : State) → kept_of (advertise_change prefix old new s) ≡ kept_of s
advertise_kept prefix old new s = if_kept _ _ _ _ refl (queue_kept _ s)

pub update_kept : (now : ℕ) (prefix : PrefixValue) (update : UnfeasibleUpdate) (s : State) → kept_of (request_for_update now prefix update s) ≡ kept_of s
update_kept now prefix update s = option_kept _ (pair_at prefix update.router s) s _ (λ pair. asks_kept _ _ _ _ _ _ s) refl

sender_kept : (now : ℕ) (cause : Option UnfeasibleUpdate) (prefix : PrefixValue) (old : Option Selection) (s : State) → kept_of (request_from_sender now cause prefix old s) ≡ kept_of s
sender_kept now None prefix old s = refl
sender_kept now (Some update) prefix old s = if_kept _ _ _ _ (update_kept now prefix update s) refl

seqno_kept : (now : ℕ) (cause : Option UnfeasibleUpdate) (prefix : PrefixValue) (old new : Option Selection) (s : State) → kept_of (request_for_seqno now cause prefix old new s) ≡ kept_of s
seqno_kept now cause prefix (Some lost) None s = if_kept _ _ _ _ (asks_kept _ _ _ _ _ _ s) (sender_kept now cause prefix (Some lost) s)
seqno_kept now cause prefix (Some lost) (Some new) s = sender_kept now cause prefix (Some lost) s
seqno_kept now cause prefix None None s = sender_kept now cause prefix None s
seqno_kept now cause prefix None (Some new) s = sender_kept now cause prefix None s

pub follows_kept : (now : ℕ) (cause : Option UnfeasibleUpdate) (prefix : PrefixValue) (old new : Option Selection) (s : State) → kept_of (follow_up now cause prefix old new s) ≡ kept_of s
follows_kept now cause prefix old new s =
    seqno_kept now cause prefix old new (advertise_change prefix old new s) ∙ advertise_kept prefix old new s

pub reselects_kept : (now : ℕ) (cause : Option UnfeasibleUpdate) (prefix : PrefixValue) (s : State) → kept_of (reselect now cause prefix s) ≡ kept_of (select prefix s)
unfolding reselect
reselects_kept now cause prefix s =
    follows_kept now cause prefix (selected_at prefix s) (selected_at prefix (select prefix s)) (select prefix s)

-- ---- all but the selections too

pub base_kept : (s t : State) → kept_of t ≡ kept_of s → base_of t ≡ base_of s
unfolding kept_of base_of
base_kept s t same = ap base_of same

selects_base : (prefix : PrefixValue) (s : State) → base_of (select prefix s) ≡ base_of s
unfolding base_of
selects_base prefix s = refl

pub reselects_base : ReselectionKeepsBase
reselects_base now cause prefix s = base_kept (select prefix s) (reselect now cause prefix s) (reselects_kept now cause prefix s) ∙ selects_base prefix s

each_base : (now : ℕ) (ps : List PrefixValue) (s : State) → base_of (reselect_each now ps s) ≡ base_of s
each_base now [] s = refl
each_base now (p ∷ ps) s = each_base now ps (reselect now None p s) ∙ reselects_base now None p s

pub all_base : ReselectionOfAllKeepsBase
unfolding reselect_all
all_base now s = each_base now (routed_prefixes s) s
