-- What the laws of a state say of a call.
use Rattle.std.specs.Prelude.{◌≡◌, ◌↔◌, ℕ, Bool, true, false, List, Option, Some, None, Result, Ok, Err, IsOk, IsErr, IsNone, IsSome, is_some, IfSome}
use Rattle.std.specs.Option.{option_and_then}
use Rattle.std.proofs.Common.{refl, sym, subst, ◌∙◌}
use Rattle.std.proofs.lemmas.Bool.{false≢true}
use Rattle.std.proofs.lemmas.Option.{get_or_from_slice_get, slice_get_within}
use Rattle.babel_message.specs.declared.errors.Refusal.{Refusal}
use Rattle.babel_message.specs.declared.placements.Placed.{Placed}
use Rattle.babel_packet.specs.Meaning.{messages_of}
use Rattle.babel_state.specs.declared.items.Target.{Target}
use Rattle.babel_state.specs.declared.notes.Note.{Note}
use Rattle.babel_state.specs.declared.interfaces.InterfaceEntry.{InterfaceEntry}
use Rattle.babel_state.specs.Addresses.{transport_of, transport_at}
use Rattle.babel_state.specs.CurrentSelections.{IsCurrentAt, KeepsCurrent, PlacesKeepCurrent, AreInHalf}
use Rattle.babel_state.specs.Invariants.{IsUsable, IsWellFormed, SendingKeepsCurrentInHalf}
use Rattle.babel_state.specs.Messages.{Arrival, Receives}
use Rattle.babel_state.specs.QueueLaws.{is_silent, DatagramsAreEncodable}
use Rattle.babel_state.specs.Seen.{seen, updates_among, Sends}
use Rattle.babel_state.specs.SeenLaws.{AreEncodable, PlacesMove, MovesByDatagram, DatagramsSend, NoDatagramChangesNothing}
use Rattle.babel_state.specs.State.{State, interface_at}
use Rattle.babel_value.specs.Prefixes.{PrefixValue}
use Rattle.babel_speaker.specs.Sending.{are_encodable, fits_by, HaveTransports, MeansFrom, draft_at}

-- ---- a call that isn't refused

-- a law of two states holds of states that are equal to them
pub through : (R : State → State → Type 0) (old core new after : State) → core ≡ old → new ≡ after → R core after → R old new
through R old core new after view is law = subst (λ o. R o new) view (subst (R core) (sym is) law)

none_is : {X : Type 0} (m : Option X) → IsNone m → m ≡ None
none_is None e = refl
none_is (Some x) e = absurd (false≢true (sym e))

pub none_if_false : {A : Type 0} (o : Option A) → is_some o ≡ false → o ≡ None
none_if_false None none = refl
none_if_false (Some x) none = cc

pub free_if_ok : {T E X : Type 0} (result : Result T E) (x : T) (m : Option X) → (IsOk result ↔ IsNone m) → result ≡ Ok x → m ≡ None
free_if_ok result x m iff is = none_is m (iff.0 (subst IsOk (sym is) refl))

pub false_if_ok : {T E : Type 0} (result : Result T E) (x : T) (b : Bool) → (IsErr result ↔ (b ≡ true)) → result ≡ Ok x → b ≡ false
false_if_ok result x true iff is = absurd (false≢true (subst IsErr is (iff.1 refl)))
false_if_ok result x false iff is = refl

-- ---- a datagram that is received

abbrev pub CanDecode : Result (List Placed) Refusal → Type 0
CanDecode read = (placed : List Placed) → read ≡ Ok placed → AreEncodable (messages_of placed)

placed_or : Result (List Placed) Refusal → List Placed → List Placed
placed_or (Ok placed) other = placed
placed_or (Err refusal) other = other

-- What was decoded can be encoded.
pub can_decode : (placed : List Placed) → AreEncodable (messages_of placed) → CanDecode (Ok placed)
unfolding placed_or
can_decode placed encodable others is = subst (λ read. AreEncodable (messages_of (placed_or read placed))) is encodable

pub received_moves : (notes : List Note) (arrival : Arrival) (old core new : State) → PlacesMove → CanDecode arrival.read → core ≡ old →
    Receives arrival core new notes → IsWellFormed core → MovesByDatagram arrival.peer arrival.read old new
received_moves notes arrival old core new law each view r well =
    through (λ o t. MovesByDatagram arrival.peer arrival.read o t) old core new _ view r.3 (r.0, r.2, (law arrival.now arrival.peer r.0 core (each r.0 r.2) well).1)

-- ---- a datagram that is sent

abbrev SendsFrom : ℕ → State → Target → State → Type 0
SendsFrom now old target new = Sends target.iface (updates_among (draft_at now old).messages) (seen old) (seen new)

pub sent_if : (result : Option Target) (now : ℕ) (old core new : State) → DatagramsSend → core ≡ old → result ≡ (draft_at now core).target →
    new ≡ (draft_at now core).state → IsWellFormed core → IfSome result (λ target. SendsFrom now old target new)
sent_if None now old core new law view is state well = tt
sent_if (Some target) now old core new law view is state well =
    through (λ o t. SendsFrom now o target t) old core new _ view state (law now (fits_by core) core target well (sym is))

pub unseen_if : (result : Option Target) (now : ℕ) (old core new : State) → NoDatagramChangesNothing → core ≡ old → result ≡ (draft_at now core).target →
    new ≡ (draft_at now core).state → IsNone result → seen new ≡ seen old
unseen_if result now old core new law view is state none =
    through (λ o t. seen t ≡ seen o) old core new _ view state (law now (fits_by core) core (sym is ∙ none_is result none))

abbrev MeansIf : ℕ → State → List ℕ → Target → Type 0
MeansIf now old octets target = MeansFrom (transport_at target.iface old) octets (draft_at now old).messages

pub means_if : (result : Option Target) (now : ℕ) (old core : State) (octets : List ℕ) → DatagramsAreEncodable → core ≡ old → IsWellFormed core →
    IfSome result (λ target. are_encodable (draft_at now core).messages ≡ true → MeansIf now core octets target) → IfSome result (MeansIf now old octets)
means_if None now old core octets law view well means = tt
means_if (Some target) now old core octets law view well means =
    subst (λ o. MeansIf now o octets target) view (means (law now (fits_by core) core well))

usable_at : (s : State) (iface : ℕ) (i : InterfaceEntry) → interface_at iface s ≡ Some i → IsWellFormed s → IsUsable i
usable_at s iface i at well =
    subst IsUsable (get_or_from_slice_get s.interfaces iface i i at) (well.tables.interfaces.usable iface i (slice_get_within s.interfaces iface i at))

-- Each interface has an address to send from, so that there is no datagram only if no item means a message.
pub none_through : (result : Option Target) (old core : State) → core ≡ old → IsWellFormed core → (HaveTransports core → (IsNone result ↔ (is_silent core ≡ true))) → IsNone result ↔ (is_silent old ≡ true)
none_through result old core view well iff = subst (λ o. IsNone result ↔ (is_silent o ≡ true)) view (iff (transports_of core well))
  where
    has : (i : InterfaceEntry) (m : Option InterfaceEntry) → m ≡ Some i → IsUsable i → IsSome (option_and_then transport_of m)
    has i m is usable = subst (λ m. IsSome (option_and_then transport_of m)) (sym is) usable.transport

    transports_of : (s : State) → IsWellFormed s → HaveTransports s
    transports_of s well iface there = by (interface_at iface s) refl there
      where
        by : (m : Option InterfaceEntry) → interface_at iface s ≡ m → IsSome m → IsSome (transport_at iface s)
        by None at there = absurd (false≢true there)
        by (Some i) at there = has i (interface_at iface s) at (usable_at s iface i at well)

-- ---- current selections

pub received_current : (notes : List Note) (arrival : Arrival) (old core new : State) → PlacesKeepCurrent → core ≡ old → Receives arrival core new notes →
    IsWellFormed core → KeepsCurrent old new
received_current notes arrival old core new law view r well =
    through KeepsCurrent old core new _ view r.3 (law arrival.now arrival.peer r.0 core well.tables.routes.entries_in_order)

abbrev IsKeptInHalf : State → State → Type 0
IsKeptInHalf old new = (first : ℕ) (prefix : PrefixValue) → AreInHalf first prefix old → IsCurrentAt prefix old → IsCurrentAt prefix new

pub half_through : (now : ℕ) (old core new : State) → SendingKeepsCurrentInHalf → core ≡ old → new ≡ (draft_at now core).state → IsWellFormed core → IsKeptInHalf old new
half_through now old core new law view state well =
    through IsKeptInHalf old core new _ view state (λ first prefix half current. law now (fits_by core) core first prefix well half current)
