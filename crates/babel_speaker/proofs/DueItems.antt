-- Lists that a tick walks.
use Rattle.std.proofs.Common.{◌≡◌, ℕ, ◌+◌, suc, List, [], ◌∷◌, ◌++◌, drop, length, slice_get, Some, None, refl, ap, ◌∙◌, sym, add-one}
use Rattle.std.proofs.Math.Seq.{drop-length}
use Rattle.babel_value.specs.declared.keys.Source.{Source}
use Rattle.babel_link.specs.Neighbours.{Links}
use Rattle.babel_choice.specs.Routes.{RouteEntries}
use Rattle.babel_choice.proofs.RunLemmas.{drop_past}
use Rattle.babel_sources.specs.Sources.{Sources}
use Rattle.babel_state.specs.declared.requests.PendingRequest.{PendingRequest}
use Rattle.babel_state.specs.declared.interfaces.InterfaceEntry.{InterfaceEntry}
use Rattle.babel_state.specs.declared.items.Item.{Item}
use Rattle.babel_value.specs.Prefixes.{PrefixValue}
use Rattle.babel_state.specs.PendingRequests.{PendingRequests}
use Rattle.babel_state.specs.Queueing.{Pending, queued, queued_at_once}
use Rattle.babel_speaker.specs.TickItems.{repeats_of, all_repeats_of, timers_of, all_timers_of}
use Rattle.babel_speaker.proofs.Earliest.{drop_at, drop_past_next}

-- Queueing two lists is queueing one after the other.
pub queued_both : (xs ys : List Item) (p : Pending) → queued (xs ++ ys) p ≡ queued ys (queued xs p)
unfolding queued
queued_both [] ys p = refl
queued_both (x ∷ xs) ys p = queued_both xs ys (queued_at_once (x ∷ []) p)

-- ---- one element after the other

pub one_repeated : (now : ℕ) (sources : Sources) (entries : RouteEntries) (rs : PendingRequests) (k : ℕ) (e : Source × PendingRequest) (p p2 : Pending) →
    slice_get rs k ≡ Some e → p2 ≡ queued (repeats_of now sources entries e) p →
    queued (all_repeats_of now sources entries (drop (k + 1) rs)) p2 ≡ queued (all_repeats_of now sources entries (drop k rs)) p
one_repeated now sources entries rs k e p p2 is more =
    let all : PendingRequests → List Item = all_repeats_of now sources entries in
    ap (λ n. queued (all (drop n rs)) p2) (add-one k) ∙ ap (λ q. queued (all (drop (suc k) rs)) q) more
    ∙ sym (queued_both (repeats_of now sources entries e) (all (drop (suc k) rs)) p) ∙ ap (λ es. queued (all es) p) (sym (drop_at rs k e is))

pub none_repeated : (now : ℕ) (sources : Sources) (entries : RouteEntries) (rs : PendingRequests) (k : ℕ) (p : Pending) → slice_get rs k ≡ None →
    queued (all_repeats_of now sources entries (drop (k + 1) rs)) p ≡ queued (all_repeats_of now sources entries (drop k rs)) p
none_repeated now sources entries rs k p is =
    let all : PendingRequests → List Item = all_repeats_of now sources entries in
    ap (λ n. queued (all (drop n rs)) p) (add-one k) ∙ ap (λ es. queued (all es) p) (drop_past_next rs k is ∙ sym (drop_past rs k is))

pub one_timed : (now : ℕ) (links : Links) (prefixes : List PrefixValue) (is : List InterfaceEntry) (k : ℕ) (i : InterfaceEntry) (p p2 : Pending) →
    slice_get is k ≡ Some i → p2 ≡ queued (timers_of now links prefixes k i) p →
    queued (all_timers_of now links prefixes (k + 1) (drop (k + 1) is)) p2 ≡ queued (all_timers_of now links prefixes k (drop k is)) p
one_timed now links prefixes is k i p p2 at more =
    let all : List InterfaceEntry → List Item = all_timers_of now links prefixes (k + 1) in
    ap (λ n. queued (all (drop n is)) p2) (add-one k) ∙ ap (λ q. queued (all (drop (suc k) is)) q) more
    ∙ sym (queued_both (timers_of now links prefixes k i) (all (drop (suc k) is)) p) ∙ ap (λ es. queued (all_timers_of now links prefixes k es) p) (sym (drop_at is k i at))

pub none_timed : (now : ℕ) (links : Links) (prefixes : List PrefixValue) (is : List InterfaceEntry) (k : ℕ) (p : Pending) → slice_get is k ≡ None →
    queued (all_timers_of now links prefixes (k + 1) (drop (k + 1) is)) p ≡ queued (all_timers_of now links prefixes k (drop k is)) p
none_timed now links prefixes is k p at =
    ap (λ n. queued (all_timers_of now links prefixes (k + 1) (drop n is)) p) (add-one k)
    ∙ ap (λ es. queued (all_timers_of now links prefixes (k + 1) es) p) (drop_past_next is k at)
    ∙ ap (λ es. queued (all_timers_of now links prefixes k es) p) (sym (drop_past is k at))

-- ---- ends

pub nothing_repeated : (now : ℕ) (sources : Sources) (entries : RouteEntries) (rs : PendingRequests) (p : Pending) → queued (all_repeats_of now sources entries (drop (length rs) rs)) p ≡ p
unfolding queued
nothing_repeated now sources entries rs p = ap (λ es. queued (all_repeats_of now sources entries es) p) (drop-length rs)

pub nothing_timed : (now : ℕ) (links : Links) (prefixes : List PrefixValue) (is : List InterfaceEntry) (iface : ℕ) (p : Pending) → queued (all_timers_of now links prefixes iface (drop (length is) is)) p ≡ p
unfolding queued
nothing_timed now links prefixes is iface p = ap (λ es. queued (all_timers_of now links prefixes iface es) p) (drop-length is)
