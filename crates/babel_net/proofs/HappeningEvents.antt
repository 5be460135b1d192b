-- An event that makes its step happens in what is seen of the network.
use Rattle.std.proofs.Common.{◌≡◌, ◌⊎◌, ◌<◌, ◌+◌, ◌%◌, ◌^◌, ℕ, Bool, true, false, List, [], Option, Some, None, Ok, option_map, slice_get, cond, refl, sym, ap, ◌∙◌, subst, inl, inr, arith}
use Rattle.std.proofs.lemmas.Option.{none-some, same_Some, slice_get_within, get_or_from_slice_get}
use Rattle.std.proofs.lemmas.List.Elements.{All-contains}
use Rattle.babel_value.specs.declared.addresses.Addr.TheVariants.{V4}
use Rattle.babel_value.specs.declared.keys.Peer.{Peer}
use Rattle.babel_value.specs.Prefixes.{PrefixValue}
use Rattle.babel_message.specs.declared.placements.Placed.{Placed}
use Rattle.babel_packet.specs.BodyMeanings.{Means}
use Rattle.babel_packet.specs.Meaning.{meaning, messages_of}
use Rattle.babel_value.specs.declared.addresses.Addr.{Addr}
use Rattle.babel_state.specs.declared.configs.Config.{Config}
use Rattle.babel_state.specs.declared.errors.RecvFault.{RecvFault}
use Rattle.babel_state.specs.declared.errors.SetCostFault.{SetCostFault}
use Rattle.babel_state.specs.declared.items.Target.{Target}
use Rattle.babel_state.specs.Addresses.{source_fault, transport_at}
use Rattle.babel_state.specs.Calls.{set_cost_fault, is_prefix_too_many}
use Rattle.babel_state.specs.Configs.{config_fault}
use Rattle.babel_state.specs.Invariants.{IsWellFormed}
use Rattle.babel_state.specs.Messages.{after_places}
use Rattle.babel_state.specs.NextDatagram.{Draft}
use Rattle.babel_state.specs.Queueing.{counted}
use Rattle.babel_state.specs.Restarts.{IsRestarted, RestartsAreSeen, restarted}
use Rattle.babel_state.specs.Sameness.{has_prefix}
use Rattle.babel_state.specs.Seen.{Seen, UpdateValue, seen, updates_among, IsSelecting, Moves, Sends, announcing_also, announcing_without}
use Rattle.babel_state.specs.SeenLaws.{AreEncodable, PlacesMove, MovesAlone, TicksMove, CostsMove, AnnouncingMoves, WithdrawingMoves, RaisingMoves, RequestingMoves, LosingMoves, GroupingMoves, DatagramsSend, NoDatagramChangesNothing}
use Rattle.babel_state.specs.State.{State, announces}
use Rattle.babel_speaker.specs.Sending.{fits_by, draft_at}
use Rattle.babel_speaker.proofs.FirstTables.{few_prefixes}
use Rattle.babel_machine.specs.declared.events.Event.{Event}
use Rattle.babel_machine.specs.declared.events.Event.TheVariants as events
use Rattle.babel_machine.specs.declared.errors.StepFault.{StepFault}
use Rattle.babel_machine.specs.declared.errors.StepFault.TheVariants.{NotListed, NoNode}
use Rattle.babel_machine.specs.Happenings.{StepsAlone, Receives, Emits, Restarts}
use Rattle.babel_machine.specs.Owners.{Lists}
use Rattle.babel_machine.specs.Worlds.{World, SentDatagram, speaker_at, with_speaker, with_datagram}
use Rattle.babel_net.specs.Networks.{NetworkState, SentOctets, with_speaker_state, with_octets, updates_read, datagram_seen, world_of}
use Rattle.babel_net.specs.Steps.{MakesEmit, MakesDeliver, MakesRestart, IsSent, IsSentBy, Received, recorded}
use Rattle.babel_net.specs.EventRefusals.{node_of, event_fault, fault_at, step_fault, cost_fault}
use Rattle.babel_net.specs.Invariants.{IsRunning, IsReadable}
use Rattle.babel_net.specs.Laws.{EventsHappen}
use Rattle.babel_net.proofs.SeenWorlds.{speaker_seen, node_inside, sent_seen, world_with_speaker, world_with_octets, written_back}
use Rattle.babel_net.proofs.FewPrefixes.{not_too_many}

-- What is proved of one speaker.
pub record SpeakerLaws : Type 0 where
  pub places : PlacesMove
  pub tick : TicksMove
  pub set_cost : CostsMove
  pub announce : AnnouncingMoves
  pub withdraw : WithdrawingMoves
  pub raise : RaisingMoves
  pub request_seqnos : RequestingMoves
  pub lose_links : LosingMoves
  pub group_items : GroupingMoves
  pub sent : DatagramsSend
  pub none : NoDatagramChangesNothing
  pub restart : RestartsAreSeen

-- ---- what is known of a node

pub well_at : (n : NetworkState) (node : ℕ) (s : State) → IsRunning n → slice_get n.speakers node ≡ Some s → IsWellFormed s
well_at n node s net is = All-contains IsWellFormed n.speakers s net.well_formed (node, slice_get_within n.speakers node s is, get_or_from_slice_get n.speakers node s s is)

-- the configuration of a node has no fault
pub valid_at : (n : NetworkState) (node : ℕ) (c : Config) → IsRunning n → slice_get n.configs node ≡ Some c → config_fault c ≡ None
valid_at n node c net is =
    All-contains (λ (d : Config). config_fault d ≡ None) n.configs c net.valid (node, slice_get_within n.configs node c is, get_or_from_slice_get n.configs node c c is)

-- and its router-id is the speaker's
pub router_at : (n : NetworkState) (node : ℕ) (s : State) (c : Config) → IsRunning n → slice_get n.speakers node ≡ Some s → slice_get n.configs node ≡ Some c → s.router ≡ c.router_id
unfolding seen
router_at n node s c net is configured =
    subst (λ (x : Seen). x.router ≡ c.router_id) (speaker_seen n node s is) (net.holds.router node c configured)

pub readable_at : (n : NetworkState) (number : ℕ) (d : SentOctets) → IsRunning n → slice_get n.sent number ≡ Some d → IsReadable d
readable_at n number d net is = All-contains IsReadable n.sent d net.readable (number, slice_get_within n.sent number d is, get_or_from_slice_get n.sent number d d is)

-- The configuration of the event's node, which refuses nothing.
pub record IsAllowed (event : Event) (n : NetworkState) (s : State) : Type 0 where
  pub config : Config
  pub is : slice_get n.configs (node_of event) ≡ Some config
  pub allowed : event_fault config s event n ≡ None

pub allowed_at : (event : Event) (n : NetworkState) (s : State) → slice_get n.speakers (node_of event) ≡ Some s → step_fault event n ≡ None → IsAllowed event n s
unfolding step_fault
allowed_at event n s is none = by (slice_get n.configs (node_of event)) refl (subst (λ (o : Option State). fault_at o (slice_get n.configs (node_of event)) event n ≡ None) is none)
  where
    by : (o : Option Config) → slice_get n.configs (node_of event) ≡ o → fault_at (Some s) o event n ≡ None → IsAllowed event n s
    by None _ h = absurd (none-some NoNode (sym h))
    by (Some c) at h = record { config = c; is = at; allowed = h }

pub no_cost_fault : (o : Option SetCostFault) → option_map cost_fault o ≡ None → o ≡ None
no_cost_fault None h = refl
no_cost_fault (Some fault) h = absurd (none-some (cost_fault fault) (sym h))

pub if_listed : (b : Bool) (o : Option StepFault) → cond b o (Some NotListed) ≡ None → b ≡ true
if_listed true o h = refl
if_listed false o h = absurd (none-some NotListed (sym h))

pub room_to_announce : (n : NetworkState) (node : ℕ) (s : State) (c : Config) (prefix : PrefixValue) → IsRunning n → slice_get n.speakers node ≡ Some s → slice_get n.configs node ≡ Some c → has_prefix prefix c.prefixes.items ≡ true → is_prefix_too_many prefix s ≡ false
unfolding seen
room_to_announce n node s c prefix net is config here =
    not_too_many prefix s c.prefixes.items (well_at n node s net is).tables.announced.in_order (few_prefixes c (valid_at n node c net config)) here all
  where
    of_this : (q : PrefixValue) → Lists n.configs node q → has_prefix q c.prefixes.items ≡ true
    of_this q l = subst (λ (d : Config). has_prefix q d.prefixes.items ≡ true) (same_Some l.0 c (sym l.1 ∙ config)) l.2

    all : (q : PrefixValue) → announces q s ≡ true → has_prefix q c.prefixes.items ≡ true
    all q on = of_this q (net.holds.announces node q (subst (λ (x : Seen). x.announces q ≡ true) (sym (speaker_seen n node s is)) on))

-- ---- calls without a datagram

some_peer : Peer
some_peer = record { iface = 0; addr = V4 [] }

alone : (node growths : ℕ) (announced : Seen → PrefixValue → Bool) (old new : NetworkState) (s t : State) → slice_get old.speakers node ≡ Some s → MovesAlone growths (announced (seen s)) s t → new ≡ with_speaker_state old node t → StepsAlone node growths (announced (speaker_at (world_of old) node)) (world_of old) (world_of new)
alone node growths announced old new s t is moves next = record {
  inside = node_inside old node s is;
  peer = some_peer;
  speaker = seen t;
  moves = subst (λ (x : Seen). Moves some_peer [] growths (announced x) x (seen t)) (sym (speaker_seen old node s is)) (moves some_peer);
  next = ap world_of next ∙ world_with_speaker old node t;
}

abbrev announces_now : Seen → PrefixValue → Bool
announces_now x = x.announces

-- ---- a datagram that is sent

no_word : (n : ℕ) → n < 65536 → n ≡ (n + 0) % 65536
no_word n h = omega arith

no_count : (n : ℕ) → n < 2 ^ 64 → n ≡ counted n 0
no_count n h = omega arith

-- nothing is seen of a datagram that isn't there
unmoved : (n : NetworkState) (node : ℕ) (s : State) (peer : Peer) → IsRunning n → slice_get n.speakers node ≡ Some s → Moves peer [] 0 (seen s).announces (seen s) (seen s)
unfolding seen
unmoved n node s peer net is = record {
  router = refl;
  collects = refl;
  transports = λ iface. refl;
  addresses = λ iface family. refl;
  seqno = no_word s.seqno (well_at n node s net is).tables.seqno;
  raises = no_count s.raises (well_at n node s net is).tables.raises;
  announces = λ prefix. refl;
  sources = λ _ prefix router. refl;
  entries = λ prefix from h at. inl at;
  others = λ before. before;
  selecting = subst IsSelecting (speaker_seen n node s is) (net.holds.selecting node);
}

nothing_sent : (node : ℕ) (old new : NetworkState) (s t : State) → IsRunning old → slice_get old.speakers node ≡ Some s → seen t ≡ seen s → new ≡ with_speaker_state old node t → StepsAlone node 0 (speaker_at (world_of old) node).announces (world_of old) (world_of new)
nothing_sent node old new s t net is same next =
    alone node 0 announces_now old new s t is (λ peer. subst (λ (x : Seen). Moves peer [] 0 (seen s).announces (seen s) x) (sym same) (unmoved old node s peer net is)) next

-- what is read of octets that mean messages
updates_meant : (d : SentOctets) (draft : Draft) → Means d.octets d.source draft.messages → (datagram_seen d).updates ≡ updates_among draft.messages
updates_meant d draft means = ap updates_read means.read ∙ ap updates_among means.decoded

transport_seen : (s : State) (iface : ℕ) (source : Addr) → transport_at iface s ≡ Some source → (seen s).transport_at iface ≡ Some source
unfolding seen
transport_seen s iface source is = is

datagram_sent : SpeakerLaws → (node now : ℕ) (old new : NetworkState) (s : State) (target : Target) (d : SentOctets) → IsRunning old → slice_get old.speakers node ≡ Some s → (draft_at now s).target ≡ Some target → IsSentBy node s (draft_at now s) target d → new ≡ with_octets (with_speaker_state old node (draft_at now s).state) d → Emits node (world_of old) (world_of new)
datagram_sent laws node now old new s target d net is goes by_it next = record {
  inside = node_inside old node s is;
  iface = target.iface;
  source = d.source;
  is_own = subst (λ (x : Seen). x.transport_at target.iface ≡ Some d.source) (sym (speaker_seen old node s is)) (transport_seen s target.iface d.source by_it.is_own);
  updates = updates_among (draft_at now s).messages;
  speaker = seen (draft_at now s).state;
  sends = subst (λ (x : Seen). Sends target.iface (updates_among (draft_at now s).messages) x (seen (draft_at now s).state)) (sym (speaker_seen old node s is)) (laws.sent now (fits_by s) s target (well_at old node s net is) goes);
  next = ap world_of next ∙ world_with_octets (with_speaker_state old node (draft_at now s).state) d
      ∙ ap (λ (w : World). with_datagram w (datagram_seen d)) (world_with_speaker old node (draft_at now s).state)
      ∙ ap (with_datagram (with_speaker (world_of old) node (seen (draft_at now s).state))) as_sent;
}
  where
    as_sent : datagram_seen d ≡ record { node = node; source = d.source; updates = updates_among (draft_at now s).messages }
    as_sent =
        ap (λ (m : ℕ). let x : SentDatagram = record { node = m; source = d.source; updates = (datagram_seen d).updates } in x) by_it.sender
        ∙ ap (λ (us : List UpdateValue). let x : SentDatagram = record { node = node; source = d.source; updates = us } in x) (updates_meant d (draft_at now s) by_it.means)

emitted : SpeakerLaws → (node now : ℕ) (old new : NetworkState) → IsRunning old → MakesEmit node now old new → Emits node (world_of old) (world_of new) ⊎ StepsAlone node 0 (speaker_at (world_of old) node).announces (world_of old) (world_of new)
emitted laws node now old new net made = by (draft_at now made.speaker).target refl made.sent made.is_sent made.next
  where
    s : State
    s = made.speaker

    by : (target : Option Target) → (draft_at now made.speaker).target ≡ target → (sent : Option SentOctets) → IsSent node made.speaker (draft_at now made.speaker) target sent → new ≡ recorded (with_speaker_state old node (draft_at now made.speaker).state) sent → Emits node (world_of old) (world_of new) ⊎ StepsAlone node 0 (speaker_at (world_of old) node).announces (world_of old) (world_of new)
    by None goes None is_sent next = inr (nothing_sent node old new made.speaker (draft_at now made.speaker).state net made.is (laws.none now (fits_by made.speaker) made.speaker goes) next)
    by None goes (Some d) is_sent next = absurd is_sent
    by (Some target) goes None is_sent next = absurd is_sent
    by (Some target) goes (Some d) is_sent next = inl (datagram_sent laws node now old new made.speaker target d net made.is goes is_sent next)

-- ---- a datagram that is delivered

encodable_as : (d : SentOctets) (placed : List Placed) → IsReadable d → meaning d.octets d.source ≡ Ok placed → AreEncodable (messages_of placed)
encodable_as d placed can read =
    let same : can.placed ≡ placed = cc in
    subst (λ (ps : List Placed). AreEncodable (messages_of ps)) same can.encodable

pub well_received : SpeakerLaws → (now iface : ℕ) (n : NetworkState) (node number : ℕ) (s t : State) (d : SentOctets) (fault : Option RecvFault) → IsRunning n → slice_get n.speakers node ≡ Some s → slice_get n.sent number ≡ Some d → Received now iface d fault s t → IsWellFormed t
well_received laws now iface n node number s t d None net is sent h =
    subst IsWellFormed (sym h.2) (laws.places now (record { iface = iface; addr = d.source }) h.0 s (encodable_as d h.0 (readable_at n number d net sent) h.1) (well_at n node s net is)).0
well_received laws now iface n node number s t d (Some fault) net is sent next = subst IsWellFormed (sym next) (well_at n node s net is)

delivered : SpeakerLaws → (number node iface now : ℕ) (old new : NetworkState) → IsRunning old → MakesDeliver number node iface now old new → Receives number node iface (world_of old) (world_of new) ⊎ (world_of new ≡ world_of old)
delivered laws number node iface now old new net made = by (source_fault iface made.datagram.source made.speaker) made.received
  where
    d : SentOctets
    d = made.datagram

    peer : Peer
    peer = record { iface = iface; addr = made.datagram.source }

    taken : (placed : List Placed) → meaning made.datagram.octets made.datagram.source ≡ Ok placed → made.after ≡ after_places now (record { iface = iface; addr = made.datagram.source }) placed made.speaker → Receives number node iface (world_of old) (world_of new)
    taken placed read after =
        let moved = (laws.places now (record { iface = iface; addr = made.datagram.source }) placed made.speaker (encodable_as made.datagram placed (readable_at old number made.datagram net made.was_sent) read) (well_at old node made.speaker net made.is)).1 in
        record {
          inside = node_inside old node made.speaker made.is;
          datagram = datagram_seen made.datagram;
          is = sent_seen old number made.datagram made.was_sent;
          growths = moved.0;
          speaker = seen made.after;
          moves = subst (λ (x : Seen). Moves (record { iface = iface; addr = made.datagram.source }) (datagram_seen made.datagram).updates moved.0 x.announces x (seen made.after)) (sym (speaker_seen old node made.speaker made.is)) (subst (λ (us : List UpdateValue). Moves (record { iface = iface; addr = made.datagram.source }) us moved.0 (seen made.speaker).announces (seen made.speaker) (seen made.after)) (sym (ap updates_read read)) (subst (λ (t : State). Moves (record { iface = iface; addr = made.datagram.source }) (updates_among (messages_of placed)) moved.0 (seen made.speaker).announces (seen made.speaker) (seen t)) (sym after) moved.1));
          next = ap world_of made.next ∙ world_with_speaker old node made.after;
        }

    by : (fault : Option RecvFault) → Received now iface made.datagram fault made.speaker made.after → Receives number node iface (world_of old) (world_of new) ⊎ (world_of new ≡ world_of old)
    by None h = inl (taken h.0 h.1 h.2)
    by (Some fault) after = inr (ap world_of (made.next ∙ ap (with_speaker_state old node) after ∙ written_back old node made.speaker made.is))

-- ---- a restart

restarts : SpeakerLaws → (node now : ℕ) (old new : NetworkState) → IsRunning old → MakesRestart node now old new → Restarts old.configs node (world_of old) (world_of new)
restarts laws node now old new net made = record {
  inside = node_inside old node made.speaker made.is;
  config = made.config;
  is = made.configured;
  speaker = seen (restarted now made.config made.speaker);
  restarted = subst (λ (x : Seen). IsRestarted made.config x (seen (restarted now made.config made.speaker))) (sym (speaker_seen old node made.speaker made.is)) (laws.restart now made.config made.speaker (well_at old node made.speaker net made.is) (valid_at old node made.config net made.configured));
  next = ap world_of made.next ∙ world_with_speaker old node (restarted now made.config made.speaker);
}

-- ---- each event

listed_at : (event : Event) (n : NetworkState) (s : State) (prefix : PrefixValue) (allowed : IsAllowed event n s) → has_prefix prefix allowed.config.prefixes.items ≡ true → Lists n.configs (node_of event) prefix
listed_at event n s prefix allowed here = (allowed.config, allowed.is, here)

pub happens : SpeakerLaws → EventsHappen
happens laws (events.Tick node now) old new net made ok =
    alone node 0 announces_now old new made.speaker _ made.is (laws.tick now made.speaker (well_at old node made.speaker net made.is)) made.next
happens laws (events.Emit node now) old new net made ok = emitted laws node now old new net made
happens laws (events.Deliver number node iface now) old new net made ok = delivered laws number node iface now old new net made
happens laws (events.SetCost node iface cost) old new net made ok =
    let allowed = allowed_at (events.SetCost node iface cost) old made.speaker made.is ok in
    alone node 0 announces_now old new made.speaker _ made.is (laws.set_cost iface cost made.speaker (no_cost_fault (set_cost_fault iface cost made.speaker) allowed.allowed) (well_at old node made.speaker net made.is)) made.next
happens laws (events.Raise node) old new net made ok =
    alone node 1 announces_now old new made.speaker _ made.is (laws.raise made.speaker (well_at old node made.speaker net made.is)) made.next
happens laws (events.RequestSeqnos node now) old new net made ok =
    alone node 0 announces_now old new made.speaker _ made.is (laws.request_seqnos now made.speaker (well_at old node made.speaker net made.is)) made.next
happens laws (events.LoseLinks node iface now) old new net made ok =
    alone node 0 announces_now old new made.speaker _ made.is (laws.lose_links now iface made.speaker (well_at old node made.speaker net made.is)) made.next
happens laws (events.GroupItems node) old new net made ok =
    alone node 0 announces_now old new made.speaker _ made.is (laws.group_items made.speaker (well_at old node made.speaker net made.is)) made.next
happens laws (events.Announce node prefix) old new net made ok =
    let allowed = allowed_at (events.Announce node prefix) old made.speaker made.is ok in
    let here = if_listed (has_prefix prefix allowed.config.prefixes.items) None allowed.allowed in
    (listed_at (events.Announce node prefix) old made.speaker prefix allowed here, alone node 0 (announcing_also prefix) old new made.speaker _ made.is (laws.announce prefix made.speaker (room_to_announce old node made.speaker allowed.config prefix net made.is allowed.is here) (well_at old node made.speaker net made.is)) made.next)
happens laws (events.Withdraw node prefix) old new net made ok =
    alone node 0 (announcing_without prefix) old new made.speaker _ made.is (laws.withdraw prefix made.speaker (well_at old node made.speaker net made.is)) made.next
happens laws (events.Restart node now) old new net made ok = restarts laws node now old new net made
