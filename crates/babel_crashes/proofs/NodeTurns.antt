-- Turns at a node, as events.
use Rattle.std.proofs.Common.{◌≡◌, ◌⊎◌, ℕ, Bool, true, false, List, [], ◌∷◌, Contains, length, refl, sym, subst, inl, inr}
use Rattle.std.proofs.lemmas.Option.{slice_get_read}
use Rattle.babel_wire.proofs.Members.{not_in_none, in_more}
use Rattle.babel_value.specs.declared.addresses.Addr.{Addr}
use Rattle.babel_state.specs.declared.configs.Config.{Config}
use Rattle.babel_state.specs.State.{State}
use Rattle.babel_state.specs.Ticks.{ticked}
use Rattle.babel_wire.specs.Calls.{Receipt, Nothing, Failed, Datagram, Sending}
use Rattle.babel_speaker.specs.Sending.{draft_at}
use Rattle.babel_wire.specs.Turns.{Turn, IsTurn, Receives, AreSent, Ends, SendsPending}
use Rattle.babel_net.specs.Networks.{NetworkState, SentOctets, with_speaker_state}
use Rattle.babel_crashes.specs.NodeSteps.{IsFrom, AreReceiptsFrom, IsAt, IsRecorded, LeadsTo}
use Rattle.babel_crashes.proofs.Events.{Settings, leads_on, leads_nowhere, tick_leads, Emitted, emit_leads, silent_leads, deliver_leads}

-- A network to which events lead.
pub record Comes (node : ℕ) (config : Config) (s : State) (n : NetworkState) : Type 0 where
  pub new : NetworkState
  pub leads : LeadsTo node config s n new

pub still_recorded : (node : ℕ) (config : Config) (s : State) (old new : NetworkState) (x : Sending) → LeadsTo node config s old new → IsRecorded node config old.sent x →
    IsRecorded node config new.sent x
still_recorded node config s old new x leads r =
    record { datagram = r.datagram; is_there = leads.keeps r.datagram r.is_there; sender = r.sender; source = r.source; octets = r.octets }

-- ---- what comes

from_network : Settings → (n : NetworkState) (node now iface : ℕ) (config : Config) (old new : State) (d : SentOctets) → IsAt n node config old → Contains n.sent d →
    Receives now (Datagram iface d.source d.octets) false old new → Comes node config new n
from_network laws n node now iface config old new d is (number, inside, at) (notes, (placed, none, read, after, same)) =
    subst (λ (s : State). Comes node config s n) (sym after) (record {
      new = _;
      leads = deliver_leads laws n node now iface number config old d placed is (slice_get_read n.sent (length n.sent) number d refl inside (sym at)) none read;
    })

pub receives : Settings → (n : NetworkState) (node now : ℕ) (config : Config) (receipt : Receipt) (is_refused : Bool) (old new : State) → IsAt n node config old → IsFrom n.sent receipt →
    Receives now receipt is_refused old new → Comes node config new n
receives laws n node now config (Datagram iface source octets) false old new is (d, there, same_source, same_octets) h =
    from_network laws n node now iface config old new d is there
    (subst (λ (o : List ℕ). Receives now (Datagram iface d.source o) false old new) (sym same_octets)
    (subst (λ (a : Addr). Receives now (Datagram iface a octets) false old new) (sym same_source) h))
receives laws n node now config (Datagram iface source octets) true old new is from (same, fault) =
    subst (λ (s : State). Comes node config s n) (sym same) (record { new = n; leads = leads_nowhere n node config old is })
receives laws n node now config Nothing is_refused old new is from (not, same) =
    subst (λ (s : State). Comes node config s n) (sym same) (record { new = n; leads = leads_nowhere n node config old is })
receives laws n node now config Failed is_refused old new is from (not, same) =
    subst (λ (s : State). Comes node config s n) (sym same) (record { new = n; leads = leads_nowhere n node config old is })

-- ---- what is sent

pub record AllSent (node : ℕ) (config : Config) (xs : List Sending) (s : State) (n : NetworkState) : Type 0 where
  pub new : NetworkState
  pub leads : LeadsTo node config s n new
  pub records : (x : Sending) → Contains xs x → IsRecorded node config new.sent x

sends : Settings → (n : NetworkState) (node now : ℕ) (config : Config) (xs : List Sending) (old new : State) → IsAt n node config old → AreSent now old xs new → AllSent node config xs new n
sends laws n node now config [] old new is same =
    subst (λ (s : State). AllSent node config [] s n) (sym same)
    (record { new = n; leads = leads_nowhere n node config old is; records = λ x h. absurd (not_in_none x h) })
sends laws n node now config (x ∷ xs) old new is (sent, rest) =
    let first : Emitted node config now old x n = emit_leads laws n node now config old x is sent in
    let later : AllSent node config xs new first.new = sends laws first.new node now config xs (draft_at now old).state new first.leads.is_at rest in
    record {
      new = later.new;
      leads = leads_on node config (draft_at now old).state new n first.new later.new first.leads later.leads;
      records = λ y h. by later.new first later.leads later.records y (in_more x xs y h);
    }
  where
    by : (m : NetworkState) (first : Emitted node config now old x n) → LeadsTo node config new first.new m →
        ((y : Sending) → Contains xs y → IsRecorded node config m.sent y) →
        (y : Sending) → (y ≡ x) ⊎ Contains xs y → IsRecorded node config m.sent y
    by m first leads later y (inl same) =
        subst (IsRecorded node config m.sent) (sym same) (still_recorded node config new first.new m x leads first.recorded)
    by m first leads later y (inr there) = later y there

-- The last call of a turn may find nothing to send.
ends : Settings → (n : NetworkState) (node now count : ℕ) (config : Config) (last new : State) → IsAt n node config last → Ends now count last new → Comes node config new n
ends laws n node now count config last new is (inl (full, same)) =
    subst (λ (s : State). Comes node config s n) (sym same) (record { new = n; leads = leads_nowhere n node config last is })
ends laws n node now count config last new is (inr (few, none, same)) =
    subst (λ (s : State). Comes node config s n) (sym same)
    (record { new = with_speaker_state n node (draft_at now last).state; leads = silent_leads laws n node now config last is none })

pending : Settings → (n : NetworkState) (node now : ℕ) (config : Config) (xs : List Sending) (old new : State) → IsAt n node config old → SendsPending now old xs new →
    AllSent node config xs new n
pending laws n node now config xs old new is s =
    let sent : AllSent node config xs s.last n = sends laws n node now config xs old s.last is s.each in
    let rest : Comes node config new sent.new = ends laws sent.new node now (length xs) config s.last new sent.leads.is_at s.ends in
    record {
      new = rest.new;
      leads = leads_on node config s.last new n sent.new rest.new sent.leads rest.leads;
      records = λ x h. still_recorded node config new sent.new rest.new x rest.leads (sent.records x h);
    }

pub turn_made : Settings → (n : NetworkState) (node : ℕ) (config : Config) (t : Turn) (old new : State) → IsAt n node config old → IsFrom n.sent t.receipt → IsTurn old t new →
    AllSent node config t.sendings new n
turn_made laws n node config t old new is from turn =
    let came : Comes node config turn.received n = receives laws n node t.now config t.receipt t.is_refused old turn.received is from turn.receives in
    let ticks = tick_leads laws came.new node t.now config turn.received came.leads.is_at in
    let ready : NetworkState = with_speaker_state came.new node (ticked t.now turn.received) in
    let sent : AllSent node config t.sendings new ready = pending laws ready node t.now config t.sendings (ticked t.now turn.received) new ticks.is_at turn.sends in
    let first = leads_on node config turn.received (ticked t.now turn.received) n came.new ready came.leads ticks in
    record {
      new = sent.new;
      leads = leads_on node config (ticked t.now turn.received) new n ready sent.new first sent.leads;
      records = sent.records;
    }

-- ---- what came earlier

still_from : (old new : List SentOctets) (receipt : Receipt) → ((d : SentOctets) → Contains old d → Contains new d) → IsFrom old receipt → IsFrom new receipt
still_from old new (Datagram iface source octets) keeps (d, there, same_source, same_octets) = (d, keeps d there, same_source, same_octets)
still_from old new Nothing keeps from = tt
still_from old new Failed keeps from = tt

pub still_receipts : (old new : List SentOctets) (rs : List Receipt) → ((d : SentOctets) → Contains old d → Contains new d) → AreReceiptsFrom old rs → AreReceiptsFrom new rs
still_receipts old new rs keeps from r h = still_from old new r keeps (from r h)
