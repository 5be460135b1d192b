-- An event keeps what holds of every network.
use Rattle.std.proofs.Common.{◌≡◌, ℕ, true, List, [], ◌∷◌, All, Option, Some, None, length, slice_get, sym, ap, ◌∙◌, subst}
use Rattle.std.proofs.lemmas.List.{length-set}
use Rattle.std.proofs.lemmas.List.Elements.{All-set, All-append, All-cons, All-nil}
use Rattle.std.proofs.lemmas.List.Sums.{AllPass-from_list_all}
use Rattle.babel_packet.specs.Encodable.{is_encodable}
use Rattle.babel_message.specs.declared.messages.Message.{Message}
use Rattle.babel_state.specs.declared.configs.Config.{Config}
use Rattle.babel_state.specs.declared.items.Target.{Target}
use Rattle.babel_state.specs.Addresses.{source_fault}
use Rattle.babel_state.specs.Calls.{set_cost_fault}
use Rattle.babel_state.specs.Configs.{config_fault}
use Rattle.babel_state.specs.Invariants.{IsWellFormed, TicksKeepWellFormed, SendingKeepsWellFormed, CostsKeepWellFormed, AnnouncingKeepsWellFormed, WithdrawingKeepsWellFormed, RaisingKeepsWellFormed, RequestingKeepsWellFormed, LosingKeepsWellFormed, GroupingKeepsWellFormed}
use Rattle.babel_state.specs.QueueLaws.{DatagramsAreEncodable}
use Rattle.babel_state.specs.Restarts.{RestartsAreWellFormed, restarted}
use Rattle.babel_state.specs.Sameness.{has_prefix}
use Rattle.babel_state.specs.SeenLaws.{AreEncodable}
use Rattle.babel_state.specs.State.{State}
use Rattle.babel_speaker.specs.Sending.{fits_by, are_encodable, draft_at}
use Rattle.babel_machine.specs.declared.events.Event.{Event}
use Rattle.babel_machine.specs.declared.events.Event.TheVariants as events
use Rattle.babel_machine.specs.NetworkLaws.{EventsAreSound}
use Rattle.babel_machine.specs.Invariants.{IsInvariant}
use Rattle.babel_machine.specs.Owners.{AreApart}
use Rattle.babel_net.specs.Networks.{NetworkState, SentOctets, with_speaker_state, with_octets, world_of}
use Rattle.babel_net.specs.Steps.{MakesCall, MakesEmit, MakesDeliver, MakesRestart, Makes, IsSent, IsSentBy, recorded, step_of}
use Rattle.babel_net.specs.EventRefusals.{node_of, step_fault}
use Rattle.babel_net.specs.Invariants.{IsRunning, IsReadable}
use Rattle.babel_net.specs.Laws.{EventsKeepNetworks}
use Rattle.babel_net.proofs.Running.{running}
use Rattle.babel_net.proofs.HappeningEvents.{SpeakerLaws, happens, well_at, well_received, allowed_at, no_cost_fault, if_listed, room_to_announce, valid_at}

-- What is proved of one speaker's state.
pub record StateLaws : Type 0 where
  pub speaker : SpeakerLaws
  pub tick : TicksKeepWellFormed
  pub next_datagram : SendingKeepsWellFormed
  pub set_cost : CostsKeepWellFormed
  pub announce : AnnouncingKeepsWellFormed
  pub withdraw : WithdrawingKeepsWellFormed
  pub raise : RaisingKeepsWellFormed
  pub request_seqnos : RequestingKeepsWellFormed
  pub lose_links : LosingKeepsWellFormed
  pub group_items : GroupingKeepsWellFormed
  pub restart : RestartsAreWellFormed
  pub encodable : DatagramsAreEncodable

-- all of it but what is seen
pub record IsBuilt (n : NetworkState) : Type 0 where
  pub size : length n.speakers ≡ length n.configs
  pub valid : All (λ (c : Config). config_fault c ≡ None) n.configs
  pub well_formed : All IsWellFormed n.speakers
  pub readable : All IsReadable n.sent

pub built_with_speaker : (n : NetworkState) (node : ℕ) (t : State) → IsRunning n → IsWellFormed t → IsBuilt (with_speaker_state n node t)
built_with_speaker n node t net well = record {
  size = length-set n.speakers node t ∙ net.size;
  valid = net.valid;
  well_formed = All-set IsWellFormed n.speakers node t well net.well_formed;
  readable = net.readable;
}

built_with_octets : (n : NetworkState) (d : SentOctets) → IsBuilt n → IsReadable d → IsBuilt (with_octets n d)
built_with_octets n d built can = record {
  size = built.size;
  valid = built.valid;
  well_formed = built.well_formed;
  readable = All-append IsReadable n.sent (d ∷ []) built.readable (All-cons IsReadable d [] can (All-nil IsReadable));
}

-- ---- the node's speaker stays well formed

well_called : StateLaws → (event : Event) (old : NetworkState) (s : State) → IsRunning old → slice_get old.speakers (node_of event) ≡ Some s → step_fault event old ≡ None → IsWellFormed (step_of event s)
well_called laws (events.Tick node now) old s net is ok = laws.tick now s (well_at old node s net is)
well_called laws (events.Emit node now) old s net is ok = well_at old node s net is
well_called laws (events.Deliver number node iface now) old s net is ok = well_at old node s net is
well_called laws (events.SetCost node iface cost) old s net is ok =
    let allowed = allowed_at (events.SetCost node iface cost) old s is ok in
    laws.set_cost iface cost s (no_cost_fault (set_cost_fault iface cost s) allowed.allowed) (well_at old node s net is)
well_called laws (events.Raise node) old s net is ok = laws.raise s (well_at old node s net is)
well_called laws (events.RequestSeqnos node now) old s net is ok = laws.request_seqnos now s (well_at old node s net is)
well_called laws (events.LoseLinks node iface now) old s net is ok = laws.lose_links now iface s (well_at old node s net is)
well_called laws (events.GroupItems node) old s net is ok = laws.group_items s (well_at old node s net is)
well_called laws (events.Announce node prefix) old s net is ok =
    let allowed = allowed_at (events.Announce node prefix) old s is ok in
    laws.announce prefix s (room_to_announce old node s allowed.config prefix net is allowed.is (if_listed (has_prefix prefix allowed.config.prefixes.items) None allowed.allowed)) (well_at old node s net is)
well_called laws (events.Withdraw node prefix) old s net is ok = laws.withdraw prefix s (well_at old node s net is)
well_called laws (events.Restart node now) old s net is ok = well_at old node s net is

-- ---- each event

pub record IsBuiltFrom (old new : NetworkState) : Type 0 where
  pub configs : new.configs ≡ old.configs
  pub built : IsBuilt new

built_call : StateLaws → (event : Event) (old new : NetworkState) → IsRunning old → MakesCall (node_of event) event old new → step_fault event old ≡ None → IsBuiltFrom old new
built_call laws event old new net made ok = record {
  configs = ap (λ (n : NetworkState). n.configs) made.next;
  built = subst IsBuilt (sym made.next) (built_with_speaker old (node_of event) (step_of event made.speaker) net (well_called laws event old made.speaker net made.is ok));
}

-- what is sent can be read
readable_sent : StateLaws → (node now : ℕ) (s : State) (target : Target) (d : SentOctets) → IsWellFormed s → IsSentBy node s (draft_at now s) target d → IsReadable d
readable_sent laws node now s target d well by_it = record {
  placed = by_it.means.placed;
  read = by_it.means.read;
  encodable = subst AreEncodable (sym by_it.means.decoded) (all_from (draft_at now s).messages (laws.encodable now (fits_by s) s well));
}
  where
    all_from : (ms : List Message) → are_encodable ms ≡ true → AreEncodable ms
    all_from ms h = AllPass-from_list_all is_encodable ms h

built_emit : StateLaws → (node now : ℕ) (old new : NetworkState) → IsRunning old → MakesEmit node now old new → IsBuiltFrom old new
built_emit laws node now old new net made = by made.sent (draft_at now made.speaker).target made.is_sent made.next
  where
    after : NetworkState
    after = with_speaker_state old node (draft_at now made.speaker).state

    well : IsWellFormed made.speaker
    well = well_at old node made.speaker net made.is

    built : IsBuilt (with_speaker_state old node (draft_at now made.speaker).state)
    built = built_with_speaker old node (draft_at now made.speaker).state net (laws.next_datagram now (fits_by made.speaker) made.speaker (well_at old node made.speaker net made.is))

    by : (sent : Option SentOctets) (target : Option Target) → IsSent node made.speaker (draft_at now made.speaker) target sent → new ≡ recorded (with_speaker_state old node (draft_at now made.speaker).state) sent → IsBuiltFrom old new
    by None None is_sent next = record { configs = ap (λ (n : NetworkState). n.configs) next; built = subst IsBuilt (sym next) built }
    by None (Some target) is_sent next = absurd is_sent
    by (Some d) None is_sent next = absurd is_sent
    by (Some d) (Some target) is_sent next = record {
      configs = ap (λ (n : NetworkState). n.configs) next;
      built = subst IsBuilt (sym next) (built_with_octets (with_speaker_state old node (draft_at now made.speaker).state) d built (readable_sent laws node now made.speaker target d (well_at old node made.speaker net made.is) is_sent));
    }

built_deliver : StateLaws → (number node iface now : ℕ) (old new : NetworkState) → IsRunning old → MakesDeliver number node iface now old new → IsBuiltFrom old new
built_deliver laws number node iface now old new net made = record {
  configs = ap (λ (n : NetworkState). n.configs) made.next;
  built = subst IsBuilt (sym made.next) (built_with_speaker old node made.after net (well_received laws.speaker now iface old node number made.speaker made.after made.datagram (source_fault iface made.datagram.source made.speaker) net made.is made.was_sent made.received));
}

built_restart : StateLaws → (node now : ℕ) (old new : NetworkState) → IsRunning old → MakesRestart node now old new → IsBuiltFrom old new
built_restart laws node now old new net made = record {
  configs = ap (λ (n : NetworkState). n.configs) made.next;
  built = subst IsBuilt (sym made.next) (built_with_speaker old node (restarted now made.config made.speaker) net (laws.restart now made.config made.speaker (well_at old node made.speaker net made.is) (valid_at old node made.config net made.configured)));
}

pub built_from : StateLaws → (event : Event) (old new : NetworkState) → IsRunning old → Makes event old new → step_fault event old ≡ None → IsBuiltFrom old new
built_from laws (events.Tick node now) old new net made ok = built_call laws (events.Tick node now) old new net made ok
built_from laws (events.Emit node now) old new net made ok = built_emit laws node now old new net made
built_from laws (events.Deliver number node iface now) old new net made ok = built_deliver laws number node iface now old new net made
built_from laws (events.SetCost node iface cost) old new net made ok = built_call laws (events.SetCost node iface cost) old new net made ok
built_from laws (events.Raise node) old new net made ok = built_call laws (events.Raise node) old new net made ok
built_from laws (events.RequestSeqnos node now) old new net made ok = built_call laws (events.RequestSeqnos node now) old new net made ok
built_from laws (events.LoseLinks node iface now) old new net made ok = built_call laws (events.LoseLinks node iface now) old new net made ok
built_from laws (events.GroupItems node) old new net made ok = built_call laws (events.GroupItems node) old new net made ok
built_from laws (events.Announce node prefix) old new net made ok = built_call laws (events.Announce node prefix) old new net made ok
built_from laws (events.Withdraw node prefix) old new net made ok = built_call laws (events.Withdraw node prefix) old new net made ok
built_from laws (events.Restart node now) old new net made ok = built_restart laws node now old new net made

pub kept : StateLaws → EventsAreSound → EventsKeepNetworks
kept laws are_sound event old new net made ok =
    let run : IsRunning old = running old net in
    let from = built_from laws event old new run made ok in
    let sound = are_sound old.configs event (world_of old) (world_of new) net.apart net.sound (happens laws.speaker event old new run made ok) in
    record {
      size = from.built.size;
      valid = from.built.valid;
      apart = subst AreApart (sym from.configs) net.apart;
      well_formed = from.built.well_formed;
      readable = from.built.readable;
      sound = subst (λ (cs : List Config). IsInvariant cs (world_of new)) (sym from.configs) sound;
    }
