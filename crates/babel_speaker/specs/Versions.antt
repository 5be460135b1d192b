-- How often what a speaker reports and keeps may have changed (profile).
use Rattle.std.specs.Prelude.{◌≡◌, ◌+◌, ◌≤◌, ◌<◌, ℕ}
use Rattle.babel_state.specs.KeptRoutes.{KeepsRoutes}
use Rattle.babel_state.specs.Restarts.{snapshot_of}
use Rattle.babel_state.specs.State.{State}

-- A speaker: its state, and two counts. One grows whenever a selected route may be reported otherwise, the other whenever the snapshot may have changed.
pub record SpeakerValue : Type 0 where
  pub state : State
  pub routes_version : ℕ
  pub snapshot_version : ℕ

-- The greatest value of a count. From there it can't grow, so it promises nothing.
abbrev pub greatest_version : ℕ
greatest_version = 18446744073709551615

-- The snapshot stays as it is.
pub record KeepsSnapshot (old new : State) : Type 0 where
  pub same : snapshot_of new ≡ snapshot_of old

-- The counts never fall. If one is the same, and below its greatest value, what it counts is the same: the selected routes as they are
-- reported, or the snapshot.
pub record CountsChanges (old new : SpeakerValue) : Type 0 where
  pub routes_grow : old.routes_version ≤ new.routes_version
  pub snapshot_grows : old.snapshot_version ≤ new.snapshot_version
  pub routes : new.routes_version ≡ old.routes_version → new.routes_version < greatest_version → KeepsRoutes old.state new.state
  pub snapshot : new.snapshot_version ≡ old.snapshot_version → new.snapshot_version < greatest_version → snapshot_of new.state ≡ snapshot_of old.state

-- The count of routes stays if the same is reported of each prefix's selected route, and grows by at most one.
pub record CountsRoutes (old new : SpeakerValue) : Type 0 where
  pub kept : KeepsRoutes old.state new.state → new.routes_version ≡ old.routes_version
  pub step : new.routes_version ≤ old.routes_version + 1

-- The count of snapshots stays if the snapshot is the same, and grows by at most one.
pub record CountsSnapshots (old new : SpeakerValue) : Type 0 where
  pub kept : snapshot_of new.state ≡ snapshot_of old.state → new.snapshot_version ≡ old.snapshot_version
  pub step : new.snapshot_version ≤ old.snapshot_version + 1

-- Over two calls, one after the other, they count the changes of both.
abbrev pub CountsAddUp : Type 0
CountsAddUp = (old mid new : SpeakerValue) → CountsChanges old mid → CountsChanges mid new → CountsChanges old new
