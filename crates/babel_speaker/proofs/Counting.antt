-- The counts of changes.
use Rattle.std.specs.Prelude.{◌≡◌, ◌+◌, ◌≤◌, ◌<◌, ℕ, Bool, true, false, not, IsTrue, IsFalse}
use Rattle.std.proofs.Common.{refl, sym, ◌∙◌, ap, subst, arith, true≢false}
use Rattle.babel_state.specs.KeptRoutes.{KeepsRoutes}
use Rattle.babel_state.specs.Restarts.{snapshot_of}
use Rattle.babel_state.specs.SeqnoRequests.{raised}
use Rattle.babel_state.specs.State.{State}
use Rattle.babel_state.proofs.KeptRoutes.{parts_routes, routes_through, same_routes}
use Rattle.babel_speaker.specs.Versions.{SpeakerValue, greatest_version, CountsChanges, CountsRoutes, CountsSnapshots, CountsAddUp}

-- A count after what may have changed.
pub record IsCounted (changed : Bool) (old new : ℕ) : Type 0 where
  pub grows : old ≤ new
  pub counted : new ≡ old → new < greatest_version → IsFalse changed

pub not_counted : (n : ℕ) → IsCounted false n n
not_counted n = record { grows = omega arith; counted = λ same below. refl }

pub counts : (old new : SpeakerValue) (routes snapshot : Bool) →
    IsCounted routes old.routes_version new.routes_version → IsCounted snapshot old.snapshot_version new.snapshot_version →
    (IsFalse routes → KeepsRoutes old.state new.state) → (IsFalse snapshot → snapshot_of new.state ≡ snapshot_of old.state) → CountsChanges old new
counts old new routes snapshot r s kept saved = record {
  routes_grow = r.grows;
  snapshot_grows = s.grows;
  routes = λ same below. kept (r.counted same below);
  snapshot = λ same below. saved (s.counted same below);
}

-- The same of a view of the old value.
pub counts_from : (view old new : SpeakerValue) → view ≡ old → CountsChanges view new → CountsChanges old new
counts_from view old new is counted = subst (λ o. CountsChanges o new) is counted

pub counts_routes : (view old new : SpeakerValue) → view ≡ old → (KeepsRoutes view.state new.state → new.routes_version ≡ view.routes_version) → new.routes_version ≤ view.routes_version + 1 → CountsRoutes old new
counts_routes view old new is kept step = subst (λ o. CountsRoutes o new) is (record { kept = kept; step = step })

pub counts_snapshots : (view old new : SpeakerValue) → view ≡ old → (snapshot_of new.state ≡ snapshot_of view.state → new.snapshot_version ≡ view.snapshot_version) → new.snapshot_version ≤ view.snapshot_version + 1 → CountsSnapshots old new
counts_snapshots view old new is kept step = subst (λ o. CountsSnapshots o new) is (record { kept = kept; step = step })

pub counts_nothing : (old new : SpeakerValue) → new ≡ old → CountsChanges old new
counts_nothing old new same = record {
  routes_grow = omega (arith, ap (λ (v : SpeakerValue). v.routes_version) same);
  snapshot_grows = omega (arith, ap (λ (v : SpeakerValue). v.snapshot_version) same);
  routes = λ _ _. same_routes old.state new.state (ap (λ (v : SpeakerValue). v.state) same);
  snapshot = λ _ _. ap (λ (v : SpeakerValue). snapshot_of v.state) same;
}

pub add_up : CountsAddUp
add_up old mid new one two = record {
  routes_grow = omega (arith, one.routes_grow, two.routes_grow);
  snapshot_grows = omega (arith, one.snapshot_grows, two.snapshot_grows);
  routes = λ same below.
      let first : mid.routes_version ≡ old.routes_version = omega (arith, one.routes_grow, two.routes_grow, same) in
      let second : new.routes_version ≡ mid.routes_version = omega (arith, first, same) in
      routes_through old.state mid.state new.state (one.routes first (omega (arith, below, second))) (two.routes second below);
  snapshot = λ same below.
      let first : mid.snapshot_version ≡ old.snapshot_version = omega (arith, one.snapshot_grows, two.snapshot_grows, same) in
      let second : new.snapshot_version ≡ mid.snapshot_version = omega (arith, first, same) in
      two.snapshot second below ∙ one.snapshot first (omega (arith, below, second));
}

-- ---- what a call can't have changed

pub is_not : (b : Bool) → IsTrue b → IsFalse (not b)
is_not true is = refl
is_not false is = sym is

pub state_of : (a b : SpeakerValue) → a ≡ b → a.state ≡ b.state
state_of a b same = ap (λ (v : SpeakerValue). v.state) same

-- What certainly changed isn't unchanged.
pub never : {A : Type 0} → IsFalse true → A
never is = absurd (true≢false is)

pub raised_routes : (s t : State) → t ≡ raised s → KeepsRoutes s t
raised_routes s t is = subst (KeepsRoutes s) (sym is) (parts_routes s (raised s) (λ prefix. refl) refl)
