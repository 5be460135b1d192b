-- The turns in which a speaker is driven over a wire and a store (profile). The store is given the octets of the speaker's snapshot before the
-- datagrams of a turn are sent.
use Rattle.std.specs.Prelude.{◌≡◌, Bool, true, false, List, [], ◌∷◌, ◌++◌, map, All, ℕ, Option, Some, None, if◌then◌else◌}
use Rattle.babel_state.specs.Restarts.{Snapshot, snapshot_of}
use Rattle.babel_state.specs.State.{State}
use Rattle.babel_snapshot.specs.Octets.{snapshot_octets}
use Rattle.babel_snapshot.specs.SnapshotLaws.{IsRead}
use Rattle.babel_wire.specs.Calls.{Sending, Call, Recv, Now, Send, Keep}
use Rattle.babel_wire.specs.Turns.{Turn, IsTurn}

-- ---- what happens in a turn

-- What became of the snapshot in a turn.
pub data Keeping : Type 0 where
  -- it is the one that was kept last: the store isn't called
  Unchanged : Keeping
  -- out of memory: there are no octets, and the store isn't called
  NotMade : Keeping
  -- the store was given these octets, and whether they are kept
  Tried : List ℕ → Bool → Keeping

-- A turn, and what became of the snapshot in it. Each datagram that was taken is one of the turn's sendings, sent or not.
pub record DurableTurn : Type 0 where
  pub turn : Turn
  pub keeping : Keeping

-- The snapshot is kept, so that the datagrams may be sent.
abbrev pub is_kept : Keeping → Bool
is_kept Unchanged = true
is_kept NotMade = false
is_kept (Tried octets is_done) = is_done

-- The datagrams that the wire is given: all that were taken, or none.
abbrev pub given_in : DurableTurn → List Sending
given_in t = if is_kept t.keeping then t.turn.sendings else []

abbrev pub calls_of_keeping : Keeping → List Call
calls_of_keeping Unchanged = []
calls_of_keeping NotMade = []
calls_of_keeping (Tried octets is_done) = Keep octets is_done ∷ []

-- The wire is asked for a datagram, then for the moment. Then the store is called, if it is needed, and after it the wire to send each datagram.
abbrev pub calls_of_turn : DurableTurn → List Call
calls_of_turn t = Recv t.turn.receipt ∷ Now t.turn.now ∷ calls_of_keeping t.keeping ++ map Send (given_in t)

abbrev pub calls_of : List DurableTurn → List Call
calls_of [] = []
calls_of (t ∷ ts) = calls_of_turn t ++ calls_of ts

-- The turns without what became of the snapshots.
abbrev pub turns_of : List DurableTurn → List Turn
turns_of = map (λ (t : DurableTurn). t.turn)

-- All datagrams that were taken in these turns.
abbrev pub taken_in : List Turn → List Sending
taken_in [] = []
taken_in (t ∷ ts) = t.sendings ++ taken_in ts

-- ---- the speaker and the store in a turn

-- The octets are those of the snapshot, and are read as it.
pub record AreOctetsOf (snapshot : Snapshot) (octets : List ℕ) : Type 0 where
  pub written : octets ≡ snapshot_octets snapshot
  pub read : IsRead snapshot.router octets snapshot

-- The store isn't called only if the snapshot is the one that was kept last, or out of memory. It is given the octets of the snapshot.
abbrev pub Keeps : Option Snapshot → Snapshot → Keeping → Type 0
Keeps last snapshot Unchanged = last ≡ Some snapshot
Keeps last snapshot NotMade = Unit {0}
Keeps last snapshot (Tried octets is_done) = AreOctetsOf snapshot octets

-- The snapshot that was kept last. None: not known, since no keep has succeeded in this process, or the last one failed.
abbrev pub last_kept : Option Snapshot → Snapshot → Keeping → Option Snapshot
last_kept last snapshot Unchanged = last
last_kept last snapshot NotMade = last
last_kept last snapshot (Tried octets true) = Some snapshot
last_kept last snapshot (Tried octets false) = None

-- A turn as without a store, in which the snapshot after it is kept before a datagram is sent. If it isn't kept, no datagram of the turn is sent.
pub record IsDurableTurn (last : Option Snapshot) (old : State) (t : DurableTurn) (new : State) : Type 0 where
  pub turn : IsTurn old t.turn new
  pub keeps : Keeps last (snapshot_of new) t.keeping
  pub lost : is_kept t.keeping ≡ false → All (λ (x : Sending). x.is_sent ≡ false) t.turn.sendings

-- Turns one after another, with the snapshot that was kept last before and after them.
abbrev pub AreDurableTurns : Option Snapshot → State → List DurableTurn → Option Snapshot → State → Type 0
AreDurableTurns last old [] later new = (later ≡ last) × (new ≡ old)
AreDurableTurns last old (t ∷ ts) later new =
    (mid : State) × IsDurableTurn last old t mid × AreDurableTurns (last_kept last (snapshot_of mid) t.keeping) mid ts later new
