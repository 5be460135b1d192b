-- What leaves the snapshot of a speaker as it is.
use Rattle.std.specs.Prelude.{◌≡◌, ◌<◌, ℕ, Bool, true, false, not, IsTrue, IsFalse, length, map}
use Rattle.std.proofs.Common.{refl, sym, ◌∙◌, ap, arith, true≢false}
use Rattle.std.proofs.lemmas.List.{length-map}
use Rattle.babel_state.specs.Restarts.{Snapshot, snapshot_of, kept_source}
use Rattle.babel_state.specs.State.{State}
use Rattle.babel_state.specs.StepLaws.{OwnValue, own_of}
use Rattle.babel_state.specs.Ticks.{interfaces_ticked, requests_ticked, routes_selected}
use Rattle.babel_state.proofs.Keeping.{before_sources}

-- ---- ticks

pub unsaid : (b : Bool) → IsTrue (not b) → IsFalse b
unsaid true is = absurd (true≢false (sym is))
unsaid false is = refl

pub own_snapshot : (s t : State) → own_of t ≡ own_of s → snapshot_of t ≡ snapshot_of s
unfolding own_of snapshot_of
own_snapshot s t same =
    ap (λ (o : OwnValue). record { router = o.router; seqno = o.seqno; raises = o.raises; sources = map kept_source o.sources }) same

-- Without a collection a tick changes nothing of it.
pub tick_snapshot : (now : ℕ) (s r t u v : State) → r ≡ routes_selected now s → t ≡ requests_ticked now r → u ≡ interfaces_ticked now t → v ≡ u → snapshot_of v ≡ snapshot_of s
tick_snapshot now s r t u v routes requests timers same =
    ap snapshot_of (same ∙ timers ∙ (λ i. interfaces_ticked now (requests i)) ∙ (λ i. interfaces_ticked now (requests_ticked now (routes i))))
    ∙ own_snapshot s _ (before_sources now s)

-- With one it does: there are fewer sources.
pub collected_snapshot : (now : ℕ) (s r t u v : State) → r ≡ routes_selected now s → t ≡ requests_ticked now r → u ≡ interfaces_ticked now t → length v.sources < length u.sources → snapshot_of v ≡ snapshot_of s → ⊥
unfolding snapshot_of
collected_snapshot now s r t u v routes requests timers fewer same =
    let kept : snapshot_of u ≡ snapshot_of s = tick_snapshot now s r t u u routes requests timers refl in
    let lengths : length (map kept_source v.sources) ≡ length (map kept_source u.sources) = ap (λ (x : Snapshot). length x.sources) (same ∙ sym kept) in
    omega (arith, fewer, lengths, length-map v.sources kept_source, length-map u.sources kept_source)

pub if_not : (b : Bool) → (IsTrue b → ⊥) → IsTrue (not b)
if_not true never = absurd (never refl)
if_not false never = refl
