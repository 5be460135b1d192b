-- Single events at a node, and lists of them.
use Rattle.std.proofs.Common.{◌≡◌, ◌<◌, ℕ, Bool, true, false, List, [], ◌∷◌, ◌++◌, length, set, slice_get, nat_lt, is_some, Option, Some, None, Ok, refl, sym, ap, ◌∙◌, subst, arith}
use Rattle.std.proofs.lemmas.Bool.{ltb-false}
use Rattle.std.proofs.lemmas.List.{set-set, set-get_or, get_or-set_same, length-set}
use Rattle.std.proofs.lemmas.List.Elements.{Contains-append_left, Contains-push}
use Rattle.std.proofs.lemmas.Option.{none-some, slice_get-get_or, slice_get_within, get_or_from_slice_get}
use Rattle.babel_value.specs.declared.addresses.Addr.{Addr}
use Rattle.babel_message.specs.declared.placements.Placed.{Placed}
use Rattle.babel_packet.specs.BodyMeanings.{Means}
use Rattle.babel_packet.specs.Meaning.{meaning}
use Rattle.babel_state.specs.declared.configs.Config.{Config}
use Rattle.babel_state.specs.declared.errors.RecvFault.{RecvFault}
use Rattle.babel_state.specs.declared.errors.RecvFault.TheVariants as faults
use Rattle.babel_state.specs.declared.interfaces.InterfaceEntry.{InterfaceEntry}
use Rattle.babel_state.specs.declared.items.Target.{Target}
use Rattle.babel_state.specs.Addresses.{source_fault, source_fault_on, transport_at}
use Rattle.babel_state.specs.Messages.{after_places}
use Rattle.babel_state.specs.Grouping.{items_grouped}
use Rattle.babel_state.specs.LostLinks.{links_lost}
use Rattle.babel_state.specs.Requesting.{seqnos_requested}
use Rattle.babel_state.specs.Restarts.{restarted, snapshot_of}
use Rattle.babel_state.specs.State.{State, interface_at}
use Rattle.babel_state.specs.StepLaws.{MessagesKeepSettings, TicksKeepSettings, SendingKeepsSettings, RequestingKeepsSettings, LosingKeepsSettings, GroupingKeepsSettings}
use Rattle.babel_state.specs.Ticks.{ticked}
use Rattle.babel_speaker.specs.Sending.{fits_by, MeansFrom, IsBuiltFrom, draft_at}
use Rattle.babel_wire.specs.Calls.{Sending}
use Rattle.babel_wire.specs.Turns.{IsDraftSent}
use Rattle.babel_machine.specs.declared.events.Event.{Event}
use Rattle.babel_machine.specs.declared.events.Event.TheVariants as events
use Rattle.babel_net.specs.EventRefusals.{node_of, event_fault, fault_at, step_fault}
use Rattle.babel_net.specs.Networks.{NetworkState, SentOctets, with_speaker_state, with_octets}
use Rattle.babel_net.specs.Promises.{MakeAll, last_network, RanBy}
use Rattle.babel_net.specs.Steps.{Makes, IsSent, Received}
use Rattle.babel_crashes.specs.NodeSteps.{IsAt, IsRecorded, LeadsTo}
use Rattle.babel_crashes.proofs.Transports.{SameTransports, kept_transports, places_keep, restored_transports}

pub record Settings : Type 0 where
  pub messages : MessagesKeepSettings
  pub tick : TicksKeepSettings
  pub sending : SendingKeepsSettings
  pub requesting : RequestingKeepsSettings
  pub losing : LosingKeepsSettings
  pub grouping : GroupingKeepsSettings

-- ---- lists of events

all_joined : (xs ys : List Event) (old : NetworkState) (ns ms : List NetworkState) → MakeAll xs old ns → MakeAll ys (last_network old ns) ms → MakeAll (xs ++ ys) old (ns ++ ms)
all_joined [] ys old [] ms h k = k
all_joined [] ys old (n ∷ ns) ms h k = absurd h
all_joined (x ∷ xs) ys old [] ms h k = absurd h
all_joined (x ∷ xs) ys old (n ∷ ns) ms h k = (h.0, h.1, all_joined xs ys n ns ms h.2 k)

last_joined : (old : NetworkState) (ns ms : List NetworkState) → last_network old (ns ++ ms) ≡ last_network (last_network old ns) ms
last_joined old [] ms = refl
last_joined old (n ∷ ns) ms = last_joined n ns ms

ran_joined : (xs ys : List Event) (old mid new : NetworkState) → RanBy xs old mid → RanBy ys mid new → RanBy (xs ++ ys) old new
ran_joined xs ys old mid new one other = record {
  networks = one.networks ++ other.networks;
  made = all_joined xs ys old one.networks other.networks one.made (subst (λ (n : NetworkState). MakeAll ys n other.networks) (sym one.last) other.made);
  last = last_joined old one.networks other.networks ∙ ap (λ (n : NetworkState). last_network n other.networks) one.last ∙ other.last;
}

pub leads_on : (node : ℕ) (config : Config) (s t : State) (old mid new : NetworkState) → LeadsTo node config s old mid → LeadsTo node config t mid new → LeadsTo node config t old new
leads_on node config s t old mid new one other = record {
  events = one.events ++ other.events;
  ran = ran_joined one.events other.events old mid new one.ran other.ran;
  is_at = other.is_at;
  configs = other.configs ∙ one.configs;
  speakers = other.speakers ∙ ap (λ (xs : List State). set xs node t) one.speakers ∙ set-set old.speakers node s t;
  keeps = λ d h. other.keeps d (one.keeps d h);
}

pub leads_nowhere : (n : NetworkState) (node : ℕ) (config : Config) (s : State) → IsAt n node config s → LeadsTo node config s n n
leads_nowhere n node config s is = record {
  events = [];
  ran = record { networks = []; made = tt; last = refl };
  is_at = is;
  configs = refl;
  speakers = sym (ap (set n.speakers node) (sym (get_or_from_slice_get n.speakers node s s is.speaker)) ∙ set-get_or n.speakers node s);
  keeps = λ d h. h;
}

-- ---- one event

no_fault : (event : Event) (n : NetworkState) (s : State) (c : Config) → slice_get n.speakers (node_of event) ≡ Some s → slice_get n.configs (node_of event) ≡ Some c →
    event_fault c s event n ≡ None → step_fault event n ≡ None
unfolding step_fault
no_fault event n s c speaker configured none =
    ap (λ (o : Option State). fault_at o (slice_get n.configs (node_of event)) event n) speaker
    ∙ ap (λ (o : Option Config). fault_at (Some s) o event n) configured ∙ none

speaker_set : (n : NetworkState) (node : ℕ) (s t : State) → slice_get n.speakers node ≡ Some s → slice_get (set n.speakers node t) node ≡ Some t
speaker_set n node s t is =
    let inside : node < length n.speakers = slice_get_within n.speakers node s is in
    slice_get-get_or (set n.speakers node t) node t (subst (λ (k : ℕ). node < k) (sym (length-set n.speakers node t)) inside)
    ∙ ap Some (get_or-set_same n.speakers node t t inside)

-- The node after an event.
abbrev IsAfter : NetworkState → ℕ → Config → State → State → NetworkState → Type 0
IsAfter n node config s t m = IsAt n node config s → SameTransports s t → (m.configs ≡ n.configs) → (m.speakers ≡ set n.speakers node t) → IsAt m node config t

at_after : (n : NetworkState) (node : ℕ) (config : Config) (s t : State) (m : NetworkState) → IsAfter n node config s t m
at_after n node config s t m is transports configs speakers = record {
  configured = ap (λ (cs : List Config). slice_get cs node) configs ∙ is.configured;
  speaker = ap (λ (xs : List State). slice_get xs node) speakers ∙ speaker_set n node s t is.speaker;
  transports = λ iface. transports iface ∙ is.transports iface;
}

one_event : (event : Event) (n m : NetworkState) → Makes event n m → step_fault event n ≡ None → RanBy (event ∷ []) n m
one_event event n m made ok = record { networks = m ∷ []; made = (made, ok, tt); last = refl }

leads_by : (event : Event) (n : NetworkState) (node : ℕ) (config : Config) (s t : State) → IsAt n node config s → SameTransports s t →
    Makes event n (with_speaker_state n node t) → step_fault event n ≡ None → LeadsTo node config t n (with_speaker_state n node t)
leads_by event n node config s t is transports made ok = record {
  events = event ∷ [];
  ran = one_event event n (with_speaker_state n node t) made ok;
  is_at = at_after n node config s t (with_speaker_state n node t) is transports refl refl;
  configs = refl;
  speakers = refl;
  keeps = λ d h. h;
}

pub tick_leads : Settings → (n : NetworkState) (node now : ℕ) (config : Config) (s : State) → IsAt n node config s →
    LeadsTo node config (ticked now s) n (with_speaker_state n node (ticked now s))
tick_leads laws n node now config s is =
    leads_by (events.Tick node now) n node config s (ticked now s) is (kept_transports s (ticked now s) (laws.tick now s))
    (record { speaker = s; is = is.speaker; next = refl }) (no_fault (events.Tick node now) n s config is.speaker is.configured refl)

pub request_leads : Settings → (n : NetworkState) (node now : ℕ) (config : Config) (s : State) → IsAt n node config s →
    LeadsTo node config (seqnos_requested now s) n (with_speaker_state n node (seqnos_requested now s))
request_leads laws n node now config s is =
    leads_by (events.RequestSeqnos node now) n node config s (seqnos_requested now s) is (kept_transports s (seqnos_requested now s) (laws.requesting now s))
    (record { speaker = s; is = is.speaker; next = refl }) (no_fault (events.RequestSeqnos node now) n s config is.speaker is.configured refl)

pub lose_leads : Settings → (n : NetworkState) (node now iface : ℕ) (config : Config) (s : State) → IsAt n node config s →
    LeadsTo node config (links_lost now iface s) n (with_speaker_state n node (links_lost now iface s))
lose_leads laws n node now iface config s is =
    leads_by (events.LoseLinks node iface now) n node config s (links_lost now iface s) is (kept_transports s (links_lost now iface s) (laws.losing now iface s))
    (record { speaker = s; is = is.speaker; next = refl }) (no_fault (events.LoseLinks node iface now) n s config is.speaker is.configured refl)

pub group_leads : Settings → (n : NetworkState) (node : ℕ) (config : Config) (s : State) → IsAt n node config s →
    LeadsTo node config (items_grouped s) n (with_speaker_state n node (items_grouped s))
group_leads laws n node config s is =
    leads_by (events.GroupItems node) n node config s (items_grouped s) is (kept_transports s (items_grouped s) (laws.grouping s))
    (record { speaker = s; is = is.speaker; next = refl }) (no_fault (events.GroupItems node) n s config is.speaker is.configured refl)

pub restart_made : (n : NetworkState) (node now : ℕ) (config : Config) (s : State) → IsAt n node config s →
    Makes (events.Restart node now) n (with_speaker_state n node (restarted now config s))
restart_made n node now config s is = record { speaker = s; is = is.speaker; config = config; configured = is.configured; next = refl }

pub restart_accepted : (n : NetworkState) (node now : ℕ) (config : Config) (s : State) → IsAt n node config s → step_fault (events.Restart node now) n ≡ None
restart_accepted n node now config s is = no_fault (events.Restart node now) n s config is.speaker is.configured refl

pub at_restarted : (n : NetworkState) (node now : ℕ) (config : Config) (s : State) → IsAt n node config s →
    IsAt (with_speaker_state n node (restarted now config s)) node config (restarted now config s)
at_restarted n node now config s is = record {
  configured = is.configured;
  speaker = speaker_set n node s (restarted now config s) is.speaker;
  transports = restored_transports now config (snapshot_of s);
}

pub restart_leads : (n : NetworkState) (node now : ℕ) (config : Config) (s : State) → IsAt n node config s →
    LeadsTo node config (restarted now config s) n (with_speaker_state n node (restarted now config s))
restart_leads n node now config s is = record {
  events = events.Restart node now ∷ [];
  ran = one_event (events.Restart node now) n (with_speaker_state n node (restarted now config s)) (restart_made n node now config s is) (restart_accepted n node now config s is);
  is_at = at_restarted n node now config s is;
  configs = refl;
  speakers = refl;
  keeps = λ d h. h;
}

-- ---- a datagram that is sent

pub record Emitted (node : ℕ) (config : Config) (now : ℕ) (s : State) (x : Sending) (n : NetworkState) : Type 0 where
  pub new : NetworkState
  pub leads : LeadsTo node config (draft_at now s).state n new
  pub recorded : IsRecorded node config new.sent x

pub emit_leads : Settings → (n : NetworkState) (node now : ℕ) (config : Config) (s : State) (x : Sending) → IsAt n node config s → IsDraftSent now s x → Emitted node config now s x n
emit_leads laws n node now config s x is sent = by (transport_at x.target.iface s) refl sent.octets
  where
    mid : NetworkState
    mid = with_speaker_state n node (draft_at now s).state

    from : (source : Addr) → transport_at x.target.iface s ≡ Some source → Means x.octets source (draft_at now s).messages → Emitted node config now s x n
    from source own means =
        let d : SentOctets = record { node = node; source = source; octets = x.octets } in
        let m : NetworkState = with_octets (with_speaker_state n node (draft_at now s).state) d in record {
          new = m;
          leads = record {
            events = events.Emit node now ∷ [];
            ran = one_event (events.Emit node now) n m (record {
              speaker = s;
              is = is.speaker;
              sent = Some d;
              is_sent = subst (λ (o : Option Target). IsSent node s (draft_at now s) o (Some d)) (sym sent.target) (record { sender = refl; is_own = own; means = means; built = subst (λ (o : Option Addr). IsBuiltFrom o x.octets (draft_at now s).messages) own sent.built });
              next = refl;
            }) (no_fault (events.Emit node now) n s config is.speaker is.configured refl);
            is_at = at_after n node config s (draft_at now s).state m is (kept_transports s (draft_at now s).state (laws.sending now (fits_by s) s)) refl refl;
            configs = refl;
            speakers = refl;
            keeps = λ e h. Contains-append_left n.sent (d ∷ []) e h;
          };
          recorded = record {
            datagram = d;
            is_there = Contains-push n.sent d;
            sender = refl;
            source = sym (is.transports x.target.iface) ∙ own;
            octets = refl;
          };
        }

    by : (o : Option Addr) → transport_at x.target.iface s ≡ o → MeansFrom o x.octets (draft_at now s).messages → Emitted node config now s x n
    by None own means = absurd means
    by (Some source) own means = from source own means

-- With nothing to send, the items that mean nothing are dropped.
pub silent_leads : Settings → (n : NetworkState) (node now : ℕ) (config : Config) (s : State) → IsAt n node config s → (draft_at now s).target ≡ None →
    LeadsTo node config (draft_at now s).state n (with_speaker_state n node (draft_at now s).state)
silent_leads laws n node now config s is none =
    leads_by (events.Emit node now) n node config s (draft_at now s).state is (kept_transports s (draft_at now s).state (laws.sending now (fits_by s) s))
    (record {
      speaker = s;
      is = is.speaker;
      sent = None;
      is_sent = subst (λ (o : Option Target). IsSent node s (draft_at now s) o None) (sym none) tt;
      next = refl;
    }) (no_fault (events.Emit node now) n s config is.speaker is.configured refl)

-- ---- a datagram that is delivered

less : (a b : ℕ) → a < b → nat_lt a b ≡ true
less a b h = by (nat_lt a b) refl
  where
    by : (c : Bool) → nat_lt a b ≡ c → nat_lt a b ≡ true
    by true is = is
    by false is = absurd (omega (arith, ltb-false a b is, h))

has_interface : (iface : ℕ) (source : Addr) (s : State) → source_fault iface source s ≡ None → is_some (interface_at iface s) ≡ true
unfolding source_fault
has_interface iface source s none = by (interface_at iface s) refl none
  where
    by : (o : Option InterfaceEntry) → interface_at iface s ≡ o → source_fault_on source o s ≡ None → is_some (interface_at iface s) ≡ true
    by None is h = absurd (none-some faults.NoInterface (sym h))
    by (Some i) is h = ap is_some is

pub deliver_leads : Settings → (n : NetworkState) (node now iface number : ℕ) (config : Config) (s : State) (d : SentOctets) (placed : List Placed) → IsAt n node config s →
    slice_get n.sent number ≡ Some d → source_fault iface d.source s ≡ None → meaning d.octets d.source ≡ Ok placed →
    LeadsTo node config (after_places now (record { iface = iface; addr = d.source }) placed s) n (with_speaker_state n node (after_places now (record { iface = iface; addr = d.source }) placed s))
deliver_leads laws n node now iface number config s d placed is sent none read =
    let t : State = after_places now (record { iface = iface; addr = d.source }) placed s in
    leads_by (events.Deliver number node iface now) n node config s t is
    (kept_transports s t (places_keep laws.messages now (record { iface = iface; addr = d.source }) placed s))
    (record {
      speaker = s;
      is = is.speaker;
      datagram = d;
      was_sent = sent;
      after = t;
      received = subst (λ (o : Option RecvFault). Received now iface d o s t) (sym none) (placed, read, refl);
      next = refl;
    })
    (no_fault (events.Deliver number node iface now) n s config is.speaker is.configured
    (rw (less number (length n.sent) (slice_get_within n.sent number d sent), has_interface iface d.source s none) refl))
