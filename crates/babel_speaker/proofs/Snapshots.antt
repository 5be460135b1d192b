-- What leaves the snapshot of a speaker as it is.
use Rattle.std.specs.Prelude.{◌≡◌, ◌⊎◌, ℕ, Bool, true, false, List, [], ◌∷◌, slice_set, Option, Some, None, if◌then◌else◌}
use Rattle.std.specs.Option.{option_map_or}
use Rattle.std.proofs.Common.{refl, ◌∙◌, ap, arith, inl, inr}
use Rattle.babel_value.specs.declared.keys.Peer.{Peer}
use Rattle.babel_value.specs.Prefixes.{PrefixValue}
use Rattle.babel_message.specs.declared.placements.Content.{Content}
use Rattle.babel_message.specs.declared.placements.Content.TheVariants as contents
use Rattle.babel_message.specs.declared.placements.Placed.{Placed}
use Rattle.babel_state.specs.declared.interfaces.InterfaceEntry.{InterfaceEntry}
use Rattle.babel_state.specs.declared.notes.Note.{Note}
use Rattle.babel_state.specs.Calls.{cost_set, announced_also, withdrawn}
use Rattle.babel_state.specs.Grouping.{items_grouped}
use Rattle.babel_state.specs.LostLinks.{links_lost}
use Rattle.babel_state.specs.Messages.{Arrival, handle_message, handle_content, after_places, Receives}
use Rattle.babel_state.specs.NextDatagram.{left_out_more}
use Rattle.babel_state.specs.Restarts.{Snapshot, snapshot_of}
use Rattle.babel_state.specs.SeqnoRequests.{raised}
use Rattle.babel_state.specs.State.{State, interface_at, announces}
use Rattle.babel_state.specs.StepLaws.{OwnValue, own_of, KeepsOwn, GrowsOnce}
use Rattle.babel_state.proofs.Keeping.{message_own}
use Rattle.babel_state.proofs.LostLinks.{losing_own}
use Rattle.babel_speaker.specs.SentMessages.{without_front}
use Rattle.babel_speaker.specs.Versions.{KeepsSnapshot}

-- ---- sending

pub removed_snapshot : (s t u : State) → t ≡ without_front s → snapshot_of s ≡ snapshot_of u → snapshot_of t ≡ snapshot_of u
unfolding snapshot_of
removed_snapshot s t u is same = ap snapshot_of is ∙ same

pub left_out_snapshot : (s t u : State) → t ≡ left_out_more s → snapshot_of s ≡ snapshot_of u → snapshot_of t ≡ snapshot_of u
unfolding snapshot_of
left_out_snapshot s t u is same = ap snapshot_of is ∙ same

pub saved_itself : (s : State) → KeepsSnapshot s s
saved_itself s = record { same = refl }

pub removed_saved : (o s t : State) → t ≡ without_front s → KeepsSnapshot o s → KeepsSnapshot o t
removed_saved o s t is kept = record { same = removed_snapshot s t o is kept.same }

pub left_out_saved : (o s t : State) → t ≡ left_out_more s → KeepsSnapshot o s → KeepsSnapshot o t
left_out_saved o s t is kept = record { same = left_out_snapshot s t o is kept.same }

-- ---- receiving

-- The router-id and the sources stay: a message changes at most the own seqno, and how often that grew.
abbrev KeepsSources : State → State → Type 0
KeepsSources s t = (t.router ≡ s.router) × (t.sources ≡ s.sources)

from_own : (s t : State) → KeepsOwn s t ⊎ GrowsOnce s t → KeepsSources s t
unfolding own_of
from_own s t (inl own) = (ap (λ (o : OwnValue). o.router) own, ap (λ (o : OwnValue). o.sources) own)
from_own s t (inr own) = (ap (λ (o : OwnValue). o.router) own, ap (λ (o : OwnValue). o.sources) own)

content_sources : (now : ℕ) (peer : Peer) (content : Content) (s : State) → KeepsSources s (handle_content now peer content s).0
content_sources now peer (contents.Message m) s = from_own s (handle_message now peer m s).0 (message_own now peer m s)
content_sources now peer contents.State s = (refl, refl)
content_sources now peer (contents.Ignored reason) s = (refl, refl)

places_sources : (now : ℕ) (peer : Peer) (placed : List Placed) (s : State) → KeepsSources s (after_places now peer placed s)
places_sources now peer [] s = (refl, refl)
places_sources now peer (x ∷ xs) s =
    let first = content_sources now peer x.content s in
    let rest = places_sources now peer xs (handle_content now peer x.content s).0 in
    (rest.0 ∙ first.0, rest.1 ∙ first.1)

same_parts : (s t : State) → KeepsSources s t → t.seqno ≡ s.seqno → t.raises ≡ s.raises → snapshot_of t ≡ snapshot_of s
unfolding snapshot_of
same_parts s t (router, sources) seqno raises =
    λ i. snapshot_of (record s { router = router i; seqno = seqno i; raises = raises i; sources = sources i })

pub received_snapshot : (arrival : Arrival) (s t : State) (notes : List Note) →
    Receives arrival s t notes → t.seqno ≡ s.seqno → t.raises ≡ s.raises → snapshot_of t ≡ snapshot_of s
received_snapshot arrival s t notes received seqno raises =
    let kept = places_sources arrival.now arrival.peer received.0 s in
    same_parts s t (ap (λ (t : State). t.router) received.3 ∙ kept.0, ap (λ (t : State). t.sources) received.3 ∙ kept.1) seqno raises

-- ---- other calls

pub cost_snapshot : (iface cost : ℕ) (s t : State) → t ≡ cost_set iface cost s → snapshot_of t ≡ snapshot_of s
unfolding cost_set snapshot_of
cost_snapshot iface cost s t is = ap snapshot_of is ∙ by (interface_at iface s)
  where
    by : (m : Option InterfaceEntry) → snapshot_of (option_map_or (λ i. record s { interfaces = slice_set s.interfaces iface (record i { cost = cost }) }) m s) ≡ snapshot_of s
    by None = refl
    by (Some i) = refl

if_snapshot : (b : Bool) (x y : State) (o : Snapshot) → snapshot_of x ≡ o → snapshot_of y ≡ o → snapshot_of (if b then x else y) ≡ o
if_snapshot true x y o p q = p
if_snapshot false x y o p q = q

pub announced_snapshot : (prefix : PrefixValue) (s t : State) → t ≡ announced_also prefix s → snapshot_of t ≡ snapshot_of s
unfolding announced_also snapshot_of
announced_snapshot prefix s t is = ap snapshot_of is ∙ if_snapshot (announces prefix s) _ _ _ refl refl

pub withdrawn_snapshot : (prefix : PrefixValue) (s t : State) → t ≡ withdrawn prefix s → snapshot_of t ≡ snapshot_of s
unfolding withdrawn snapshot_of
withdrawn_snapshot prefix s t is = ap snapshot_of is

own_snapshot : (s t : State) → KeepsOwn s t → snapshot_of t ≡ snapshot_of s
unfolding own_of
own_snapshot s t own =
    same_parts s t (ap (λ (o : OwnValue). o.router) own, ap (λ (o : OwnValue). o.sources) own) (ap (λ (o : OwnValue). o.seqno) own) (ap (λ (o : OwnValue). o.raises) own)

pub lost_snapshot : (now iface : ℕ) (s t : State) → t ≡ links_lost now iface s → snapshot_of t ≡ snapshot_of s
lost_snapshot now iface s t is = ap snapshot_of is ∙ own_snapshot s (links_lost now iface s) (losing_own now iface s)

pub grouped_snapshot : (s t : State) → t ≡ items_grouped s → snapshot_of t ≡ snapshot_of s
unfolding items_grouped snapshot_of
grouped_snapshot s t is = ap snapshot_of is

-- ---- what the same snapshot says

pub same_seqno : (s t : State) → snapshot_of t ≡ snapshot_of s → t.seqno ≡ s.seqno
unfolding snapshot_of
same_seqno s t same = ap (λ (x : Snapshot). x.seqno) same

pub same_raises : (s t : State) → snapshot_of t ≡ snapshot_of s → t.raises ≡ s.raises
unfolding snapshot_of
same_raises s t same = ap (λ (x : Snapshot). x.raises) same

-- A raise changes the snapshot.
pub raised_snapshot : (s t : State) → t ≡ raised s → snapshot_of t ≡ snapshot_of s → ⊥
raised_snapshot s t is same = omega (arith, ap (λ (u : State). u.seqno) is, same_seqno s t same)
