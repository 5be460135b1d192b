-- When events are refused.
use Rattle.std.proofs.Common.{◌≡◌, ◌<◌, ◌≤◌, ℕ, false, List, if◌then◌else◌, Option, Some, None, Result, Ok, Err, is_ok, OnOk, OnErr, IfErr, length, nat_lt, slice_get, cond, refl, sym, ap, ◌∙◌, subst, inl, inr, ◌⊎◌, get_or, [], arith}
use Rattle.std.proofs.lemmas.Bool.{cases_lt}
use Rattle.std.proofs.lemmas.Bool.Decides.{nat_tests}
use Rattle.std.proofs.lemmas.Slice.Eq.{bytes_eq-Decides}
use Rattle.std.proofs.lemmas.Option.{none-some, slice_get-get_or, slice_get_read, slice_get_cases}
use Rattle.babel_value.specs.declared.addresses.Addr.TheVariants.{V4}
use Rattle.babel_state.specs.declared.configs.Config.{Config}
use Rattle.babel_state.specs.declared.errors.RestoreFault.TheVariants as restore_faults
use Rattle.babel_state.specs.Restarts.{restarted}
use Rattle.babel_state.specs.State.{State}
use Rattle.babel_speaker.specs.Making.{router_fault}
use Rattle.babel_machine.specs.declared.events.Event.{Event}
use Rattle.babel_machine.specs.declared.events.Event.TheVariants as events
use Rattle.babel_machine.specs.declared.errors.StepFault.{StepFault}
use Rattle.babel_machine.specs.declared.errors.StepFault.TheVariants.{NoDatagram}
use Rattle.babel_net.specs.Networks.{NetworkState, SentOctets, with_speaker_state}
use Rattle.babel_net.specs.Steps.{MakesCall, MakesRestart, Makes, step_of}
use Rattle.babel_net.specs.EventRefusals.{node_of, call_fault, event_fault, deliver_fault, interface_fault, fault_at, step_fault, IsFaultOrMemory, IsStepFault}
use Rattle.babel_net.specs.Invariants.{IsRunning}
use Rattle.babel_net.proofs.SeenWorlds.{written_back}
use Rattle.babel_net.proofs.HappeningEvents.{readable_at}

-- the fault of an event at a node
pub fault_is : (event : Event) (n : NetworkState) (s : State) (c : Config) → slice_get n.speakers (node_of event) ≡ Some s → slice_get n.configs (node_of event) ≡ Some c → step_fault event n ≡ event_fault c s event n
unfolding step_fault
fault_is event n s c speaker config =
    ap (λ (o : Option State). fault_at o (slice_get n.configs (node_of event)) event n) speaker
    ∙ ap (λ (o : Option Config). fault_at (Some s) o event n) config

-- an event without a datagram that takes no memory
abbrev pub IsCall : Event → Type 0
IsCall (events.Emit node now) = ⊥
IsCall (events.Deliver number node iface now) = ⊥
IsCall (events.Restart node now) = ⊥
IsCall event = Unit {0}

pub call_made : (event : Event) (old new : NetworkState) → IsCall event → MakesCall (node_of event) event old new → Makes event old new
call_made (events.Tick node now) old new is made = made
call_made (events.Emit node now) old new is made = absurd is
call_made (events.Deliver number node iface now) old new is made = absurd is
call_made (events.SetCost node iface cost) old new is made = made
call_made (events.Raise node) old new is made = made
call_made (events.RequestSeqnos node now) old new is made = made
call_made (events.LoseLinks node iface now) old new is made = made
call_made (events.GroupItems node) old new is made = made
call_made (events.Announce node prefix) old new is made = made
call_made (events.Withdraw node prefix) old new is made = made
call_made (events.Restart node now) old new is made = absurd is

pub call_fault_is : (event : Event) (n : NetworkState) (s : State) (c : Config) → IsCall event → event_fault c s event n ≡ call_fault c s event
call_fault_is (events.Tick node now) n s c is = refl
call_fault_is (events.Emit node now) n s c is = absurd is
call_fault_is (events.Deliver number node iface now) n s c is = absurd is
call_fault_is (events.SetCost node iface cost) n s c is = refl
call_fault_is (events.Raise node) n s c is = refl
call_fault_is (events.RequestSeqnos node now) n s c is = refl
call_fault_is (events.LoseLinks node iface now) n s c is = refl
call_fault_is (events.GroupItems node) n s c is = refl
call_fault_is (events.Announce node prefix) n s c is = refl
call_fault_is (events.Withdraw node prefix) n s c is = refl
call_fault_is (events.Restart node now) n s c is = absurd is

not_below : (a b : ℕ) → b ≤ a → nat_lt a b ≡ false
not_below a b h = grind (arith, nat_tests)

pub deliver_refused : (number node iface now : ℕ) (n : NetworkState) (s : State) (fault : StepFault) → IsRunning n → IsFaultOrMemory (deliver_fault number iface s n) fault → IsStepFault (deliver_fault number iface s n) (events.Deliver number node iface now) n fault
deliver_refused number node iface now n s fault net h = by (slice_get n.sent number) refl (deliver_fault number iface s n) refl h
  where
    some : SentOctets
    some = record { node = 0; source = V4 []; octets = [] }

    past : slice_get n.sent number ≡ None → ((number < length n.sent) ⊎ (length n.sent ≤ number)) → length n.sent ≤ number
    past is (inl inside) = absurd (none-some (get_or n.sent number some) (sym is ∙ slice_get-get_or n.sent number some inside))
    past is (inr out) = out

    out : slice_get n.sent number ≡ None → deliver_fault number iface s n ≡ Some NoDatagram
    out is = ap (λ b. cond b (interface_fault iface s) (Some NoDatagram)) (not_below number (length n.sent) (past is (cases_lt number (length n.sent))))

    by : (o : Option SentOctets) → slice_get n.sent number ≡ o → (f : Option StepFault) → deliver_fault number iface s n ≡ f → IsFaultOrMemory f fault → IsStepFault f (events.Deliver number node iface now) n fault
    by o is (Some cause) _ h = h
    by (Some d) is None _ h = (h, (d, is, ap is_ok (readable_at n number d net is).read))
    by None is None free h = absurd (none-some NoDatagram (sym free ∙ out is))

-- ---- the node of an event

pub speaker_read : (n : NetworkState) (node : ℕ) (s : State) → node < length n.speakers → s ≡ get_or n.speakers node s → slice_get n.speakers node ≡ Some s
speaker_read n node s inside is = slice_get_read n.speakers (length n.speakers) node s refl inside is

pub config_read : (n : NetworkState) (node : ℕ) (c : Config) → IsRunning n → node < length n.speakers → c ≡ get_or n.configs node c → slice_get n.configs node ≡ Some c
config_read n node c net inside is = slice_get_read n.configs (length n.speakers) node c net.size inside is

-- a node has a speaker and a configuration
record IsNode (n : NetworkState) (node : ℕ) : Type 0 where
  state : State
  config : Config
  has_state : slice_get n.speakers node ≡ Some state
  has_config : slice_get n.configs node ≡ Some config

node_is : (n : NetworkState) (node : ℕ) → IsRunning n → node < length n.speakers → IsNode n node
node_is n node net inside = by (slice_get_cases n.speakers node).1 (slice_get_cases n.configs node).1
  where
    by : (((s : State) × (node < length n.speakers) × (slice_get n.speakers node ≡ Some s) × (get_or n.speakers node s ≡ s)) ⊎ ((length n.speakers ≤ node) × (slice_get n.speakers node ≡ None)))
        → (((c : Config) × (node < length n.configs) × (slice_get n.configs node ≡ Some c) × (get_or n.configs node c ≡ c)) ⊎ ((length n.configs ≤ node) × (slice_get n.configs node ≡ None)))
        → IsNode n node
    by (inl s) (inl c) = record { state = s.0; config = c.0; has_state = s.2; has_config = c.2 }
    by (inl s) (inr out) = absurd (omega (arith, out.0, net.size))
    by (inr out) c = absurd (omega (arith, out.0))

-- ---- an event without a datagram

pub is_call : (event : Event) → ((node now : ℕ) → event ≡ events.Emit node now → ⊥) → ((number node iface now : ℕ) → event ≡ events.Deliver number node iface now → ⊥) → ((node now : ℕ) → event ≡ events.Restart node now → ⊥) → IsCall event
is_call (events.Tick node now) a b d = tt
is_call (events.Emit node now) a b d = a node now refl
is_call (events.Deliver number node iface now) a b d = b number node iface now refl
is_call (events.SetCost node iface cost) a b d = tt
is_call (events.Raise node) a b d = tt
is_call (events.RequestSeqnos node now) a b d = tt
is_call (events.LoseLinks node iface now) a b d = tt
is_call (events.GroupItems node) a b d = tt
is_call (events.Announce node prefix) a b d = tt
is_call (events.Withdraw node prefix) a b d = tt
is_call (events.Restart node now) a b d = d node now refl

-- its node, and what is known of it
pub record IsCalled (event : Event) (n : NetworkState) (s : State) (c : Config) : Type 0 where
  pub is : IsCall event
  pub speaker : slice_get n.speakers (node_of event) ≡ Some s
  pub config : slice_get n.configs (node_of event) ≡ Some c

called_fault : (event : Event) (n : NetworkState) (s : State) (c : Config) → IsCalled event n s c → step_fault event n ≡ call_fault c s event
called_fault event n s c at = fault_is event n s c at.speaker at.config ∙ call_fault_is event n s c at.is

pub called_ok : {T : Type 0} (r : Result T StepFault) (event : Event) (old new : NetworkState) (s t : State) (c : Config) → IsCalled event old s c → new ≡ with_speaker_state old (node_of event) t → OnOk r (t ≡ step_of event s) → OnOk r (Makes event old new)
called_ok (Ok done) event old new s t c at next is =
    call_made event old new at.is (record { speaker = s; is = at.speaker; next = next ∙ ap (with_speaker_state old (node_of event)) is })
called_ok (Err fault) event old new s t c at next is = tt

pub called_accepted : {T : Type 0} (r : Result T StepFault) (event : Event) (n : NetworkState) (s : State) (c : Config) → IsCalled event n s c → OnOk r (call_fault c s event ≡ None) → OnOk r (step_fault event n ≡ None)
called_accepted (Ok done) event n s c at free = called_fault event n s c at ∙ free
called_accepted (Err fault) event n s c at free = tt

pub called_refused : {T : Type 0} (r : Result T StepFault) (event : Event) (n : NetworkState) (s : State) (c : Config) → IsCalled event n s c → IfErr r (λ fault. call_fault c s event ≡ Some fault) → IfErr r (IsStepFault (step_fault event n) event n)
called_refused (Ok done) event n s c at cause = tt
called_refused (Err fault) event n s c at cause = subst (λ (o : Option StepFault). IsStepFault o event n fault) (sym (called_fault event n s c at ∙ cause)) refl

pub called_same : {T : Type 0} (r : Result T StepFault) (event : Event) (old new : NetworkState) (s t : State) (c : Config) → IsCalled event old s c → new ≡ with_speaker_state old (node_of event) t → OnErr r (t ≡ s) → OnErr r (new ≡ old)
called_same (Ok done) event old new s t c at next same = tt
called_same (Err fault) event old new s t c at next same = next ∙ ap (with_speaker_state old (node_of event)) same ∙ written_back old (node_of event) s at.speaker

-- ---- an event that takes memory

emit_free : (node now : ℕ) (n : NetworkState) → IsRunning n → node < length n.speakers → step_fault (events.Emit node now) n ≡ None
emit_free node now n net inside =
    let at = node_is n node net inside in
    fault_is (events.Emit node now) n at.state at.config at.has_state at.has_config

pub emit_accepted : {T : Type 0} (r : Result T StepFault) (event : Event) (node now : ℕ) (n : NetworkState) → IsRunning n → event ≡ events.Emit node now → node_of event < length n.speakers → OnOk r (step_fault event n ≡ None)
emit_accepted (Ok done) event node now n net is inside =
    subst (λ (e : Event). step_fault e n ≡ None) (sym is) (emit_free node now n net (subst (λ (e : Event). node_of e < length n.speakers) is inside))
emit_accepted (Err fault) event node now n net is inside = tt

-- What a restart leaves at its node's place, whether or not it was refused.
pub restart_made : {T : Type 0} (r : Result T StepFault) (node now : ℕ) (old new : NetworkState) (s t : State) (c : Config) → slice_get old.speakers node ≡ Some s → slice_get old.configs node ≡ Some c →
    new ≡ with_speaker_state old node t → OnOk r (t ≡ restarted now c s) → OnOk r (MakesRestart node now old new)
restart_made (Ok done) node now old new s t c speaker config next is =
    record { speaker = s; is = speaker; config = c; configured = config; next = next ∙ ap (with_speaker_state old node) is }
restart_made (Err fault) node now old new s t c speaker config next is = tt

pub restart_same : {T : Type 0} (r : Result T StepFault) (node : ℕ) (old new : NetworkState) (s t : State) → slice_get old.speakers node ≡ Some s → new ≡ with_speaker_state old node t → OnErr r (t ≡ s) →
    OnErr r (new ≡ old)
restart_same (Ok done) node old new s t speaker next same = tt
restart_same (Err fault) node old new s t speaker next same = next ∙ ap (with_speaker_state old node) same ∙ written_back old node s speaker

restart_free : (node now : ℕ) (n : NetworkState) → IsRunning n → node < length n.speakers → step_fault (events.Restart node now) n ≡ None
restart_free node now n net inside =
    let at = node_is n node net inside in
    fault_is (events.Restart node now) n at.state at.config at.has_state at.has_config

pub restart_accepted : {T : Type 0} (r : Result T StepFault) (event : Event) (node now : ℕ) (n : NetworkState) → IsRunning n → event ≡ events.Restart node now → node_of event < length n.speakers → OnOk r (step_fault event n ≡ None)
restart_accepted (Ok done) event node now n net is inside =
    subst (λ (e : Event). step_fault e n ≡ None) (sym is) (restart_free node now n net (subst (λ (e : Event). node_of e < length n.speakers) is inside))
restart_accepted (Err fault) event node now n net is inside = tt

pub deliver_refused_at : {T : Type 0} (r : Result T StepFault) (event : Event) (number node iface now : ℕ) (n : NetworkState) → IsRunning n → event ≡ events.Deliver number node iface now → node_of event < length n.speakers → IfErr r (λ fault. (s : State) → slice_get n.speakers (node_of event) ≡ Some s → IsFaultOrMemory (deliver_fault number iface s n) fault) → IfErr r (IsStepFault (step_fault event n) event n)
deliver_refused_at (Ok done) event number node iface now n net is inside h = tt
deliver_refused_at (Err fault) event number node iface now n net is inside h =
    let within : node < length n.speakers = subst (λ (e : Event). node_of e < length n.speakers) is inside in
    let at = node_is n node net within in
    let cause : IsFaultOrMemory (deliver_fault number iface at.state n) fault = h at.state (ap (λ (e : Event). slice_get n.speakers (node_of e)) is ∙ at.has_state) in
    subst (λ (e : Event). IsStepFault (step_fault e n) e n fault) (sym is)
    (subst (λ (o : Option StepFault). IsStepFault o (events.Deliver number node iface now) n fault) (sym (fault_is (events.Deliver number node iface now) n at.state at.config at.has_state at.has_config))
    (deliver_refused number node iface now n at.state fault net cause))

-- A speaker has the router-id of its configuration.
pub own_router : (router own : List ℕ) → own ≡ router → router_fault router own ≡ None
own_router router own same =
    ap (λ b. if b then None else Some restore_faults.RouterId) ((bytes_eq-Decides own router).1 same)
