-- A network of ours among routers of others: events and what is heard lead from one to the next.
use Rattle.std.proofs.Common.{◌≡◌, ℕ, true, List, [], ◌∷◌, ◌++◌, Some, None, Ok, refl, sym, ap, ◌∙◌, subst, inl, inr, slice_get}
use Rattle.std.specs.List.{AllByRecursion}
use Rattle.std.proofs.lemmas.List.{append-nil}
use Rattle.std.proofs.lemmas.List.Elements.{All-nil, All-cons}
use Rattle.babel_message.specs.declared.messages.Message.{Message}
use Rattle.babel_message.specs.declared.placements.Placed.{Placed}
use Rattle.babel_packet.specs.Decoded.{IsSendable, DecodedAreSendable}
use Rattle.babel_packet.specs.Encodable.{is_encodable}
use Rattle.babel_packet.specs.Meaning.{meaning, messages_of}
use Rattle.babel_state.specs.declared.configs.Config.{Config}
use Rattle.babel_state.specs.Invariants.{IsWellFormed}
use Rattle.babel_state.specs.Messages.{after_places}
use Rattle.babel_state.specs.Seen.{Seen, UpdateValue, seen, Moves}
use Rattle.babel_state.specs.SeenLaws.{AreEncodable}
use Rattle.babel_state.specs.State.{State}
use Rattle.babel_machine.specs.ForeignLaws.{NetworksAmongAreSound, NoLoopOfNeighbours, NoLoopOfNextHops, IsInvariantAmong}
use Rattle.babel_machine.specs.ForeignWorlds.{ForeignWorld, ForeignEvent, HearEvent, Hears, HappensAmong, HappenAllAmong, last_foreign_world, AreInHalf, NamesNoNode, NoForwardingLoop}
use Rattle.babel_machine.specs.Owners.{owner_of, AreApart}
use Rattle.babel_machine.specs.Worlds.{World, NoLoopNaming, with_speaker}
use Rattle.babel_net.specs.declared.hearing.Hearing.{Hearing}
use Rattle.babel_net.specs.declared.hearing.Hearing.TheVariants.{Received, Refused}
use Rattle.babel_mixed.specs.MixedNetworks.{MixedState, mixed_world, first_mixed, updates_by}
use Rattle.babel_net.specs.Hearing.{neighbour_of, HearsAs, HearsAt}
use Rattle.babel_mixed.specs.Mixed.{HasNoLoopOfOurs, HasNoForwardingLoopOfOurs, IsReached, IsMixed, IsWhole, FirstMixedAreSound, EventsKeepMixed, HearingKeepsMixed, MixedHasNoLoop}
use Rattle.babel_net.specs.Networks.{NetworkState, with_speaker_state, updates_read, world_of}
use Rattle.babel_net.specs.Promises.{first_network}
use Rattle.babel_net.proofs.FirstNetworks.{FirstLaws, first_sound, is_first}
use Rattle.babel_net.proofs.HappeningEvents.{happens, well_at}
use Rattle.babel_net.proofs.KeptNetworks.{StateLaws, IsBuilt, built_with_speaker, built_from}
use Rattle.babel_net.proofs.Running.{holds_any, running}
use Rattle.babel_net.proofs.SeenWorlds.{speaker_seen, node_inside, world_with_speaker, written_back}

-- What is proved of speakers, and of networks that are seen among routers of others.
pub record MixedLaws : Type 0 where
  pub state : StateLaws
  pub sendable : DecodedAreSendable
  pub among : NetworksAmongAreSound

-- ---- one more event

happen_more : (configs : List Config) (events : List ForeignEvent) (event : ForeignEvent) (first old new : ForeignWorld) (worlds : List ForeignWorld) → HappenAllAmong configs events first worlds → last_foreign_world first worlds ≡ old → HappensAmong configs event old new → HappenAllAmong configs (events ++ event ∷ []) first (worlds ++ new ∷ [])
happen_more configs [] event first old new [] h last now = (subst (λ (w : ForeignWorld). HappensAmong configs event w new) (sym last) now, tt)
happen_more configs [] event first old new (w ∷ ws) h last now = absurd h
happen_more configs (e ∷ es) event first old new [] h last now = absurd h
happen_more configs (e ∷ es) event first old new (w ∷ ws) h last now = (h.0, happen_more configs es event w old new ws h.1 last now)

last_more : (first new : ForeignWorld) (worlds : List ForeignWorld) → last_foreign_world first (worlds ++ new ∷ []) ≡ new
last_more first new [] = refl
last_more first new (w ∷ ws) = last_more w new ws

reached_more : (configs : List Config) (event : ForeignEvent) (old new : ForeignWorld) → IsReached configs old → HappensAmong configs event old new → IsReached configs new
reached_more configs event old new was now = record {
  first = was.first;
  events = was.events ++ event ∷ [];
  worlds = was.worlds ++ new ∷ [];
  is_first = was.is_first;
  happened = happen_more configs was.events event was.first old new was.worlds was.happened was.last now;
  last = last_more was.first new was.worlds;
}

-- ---- what holds of a network that is reached

invariant_of : NetworksAmongAreSound → (configs : List Config) (w : ForeignWorld) → AreApart configs → IsReached configs w → IsInvariantAmong configs w
invariant_of among configs w apart was =
    subst (IsInvariantAmong configs) was.last (among configs was.first was.events was.worlds apart was.is_first was.happened)

mixed_of : NetworksAmongAreSound → (n : MixedState) → IsBuilt n.ours → AreApart n.ours.configs → IsReached n.ours.configs (mixed_world n) → IsMixed n
mixed_of among n built apart was = record {
  running = record {
    size = built.size;
    valid = built.valid;
    apart = apart;
    well_formed = built.well_formed;
    readable = built.readable;
    holds = holds_any _ _ n.ours.configs (world_of n.ours) (invariant_of among n.ours.configs (mixed_world n) apart was).holds;
  };
  reached = was;
}

-- the same after an event that left the configurations
mixed_next : NetworksAmongAreSound → (event : ForeignEvent) (old new : MixedState) → IsMixed old → new.ours.configs ≡ old.ours.configs → IsBuilt new.ours → HappensAmong old.ours.configs event (mixed_world old) (mixed_world new) → IsMixed new
mixed_next among event old new mixed same built now =
    mixed_of among new built (subst AreApart (sym same) mixed.running.apart)
    (subst (λ (cs : List Config). IsReached cs (mixed_world new)) (sym same) (reached_more old.ours.configs event (mixed_world old) (mixed_world new) mixed.reached now))

-- ---- at first

pub first_is_mixed : FirstLaws → FirstMixedAreSound
first_is_mixed laws configs accepted words = record {
  running = running (first_network configs) (first_sound laws configs accepted words);
  reached = record {
    first = mixed_world (first_mixed configs);
    events = [];
    worlds = [];
    is_first = record { ours = is_first laws configs; heard = refl };
    happened = tt;
    last = refl;
  };
}

-- ---- an event of ours

pub mixed_after : MixedLaws → EventsKeepMixed
mixed_after laws event old new mixed made ok =
    let built = built_from laws.state event old.ours new mixed.running made ok in
    mixed_next laws.among (inl event) old (record old { ours = new }) mixed built.configs built.built
    (happens laws.state.speaker event old.ours new mixed.running made ok, refl)

-- ---- a datagram that is heard

all_encodable : (ms : List Message) → AllByRecursion IsSendable ms → AreEncodable ms
all_encodable [] h = All-nil (λ (m : Message). is_encodable m ≡ true)
all_encodable (m ∷ ms) h = All-cons (λ (m : Message). is_encodable m ≡ true) m ms h.0.encodable (all_encodable ms h.1)

-- what the speaker makes of the places of a datagram that is read
heard_places : MixedLaws → (event : HearEvent) (placed : List Placed) (s : State) → IsWhole event → meaning event.octets event.source ≡ Ok placed → IsWellFormed s →
    IsWellFormed (after_places event.now (neighbour_of event) placed s)
    × ((growths : ℕ) × Moves (neighbour_of event) (updates_read (meaning event.octets event.source)) growths (seen s).announces (seen s) (seen (after_places event.now (neighbour_of event) placed s)))
heard_places laws event placed s whole read well =
    let can : AreEncodable (messages_of placed) = all_encodable (messages_of placed) (laws.sendable event.octets event.source placed whole.octets whole.source read) in
    let law = laws.state.speaker.places event.now (neighbour_of event) placed s can well in
    (law.0, (law.1.0, subst (λ (us : List UpdateValue). Moves (neighbour_of event) us law.1.0 (seen s).announces (seen s) (seen (after_places event.now (neighbour_of event) placed s))) (sym (ap updates_read read)) law.1.1))

same_world : (v : ForeignWorld) (ours : World) (heard : List UpdateValue) → v.ours ≡ ours → v.heard ≡ heard → v ≡ record { ours = ours; heard = heard }
same_world v ours heard one other = ap (λ x. record v { ours = x }) one ∙ ap (λ x. record v { ours = ours; heard = x }) other

node_hears : MixedLaws → (event : HearEvent) (old new : MixedState) (s t : State) (placed : List Placed) → IsWhole event → IsMixed old → owner_of old.ours.configs event.source ≡ None → slice_get old.ours.speakers event.node ≡ Some s → meaning event.octets event.source ≡ Ok placed → t ≡ after_places event.now (neighbour_of event) placed s → new.ours ≡ with_speaker_state old.ours event.node t → new.heard ≡ old.heard ++ updates_read (meaning event.octets event.source) → IsMixed new
node_hears laws event old new s t placed whole mixed foreign is read after next heard =
    mixed_next laws.among (inr event) old new mixed (ap (λ (n : NetworkState). n.configs) next) built (inl hears)
  where
    law : IsWellFormed (after_places event.now (neighbour_of event) placed s) × ((growths : ℕ) × Moves (neighbour_of event) (updates_read (meaning event.octets event.source)) growths (seen s).announces (seen s) (seen (after_places event.now (neighbour_of event) placed s)))
    law =
        heard_places laws event placed s whole read (well_at old.ours event.node s mixed.running is)

    built : IsBuilt new.ours
    built =
        subst IsBuilt (sym next) (built_with_speaker old.ours event.node t mixed.running (subst IsWellFormed (sym after) law.0))

    hears : Hears old.ours.configs event (mixed_world old) (mixed_world new)
    hears = record {
      inside = node_inside old.ours event.node s is;
      is_foreign = foreign;
      updates = updates_read (meaning event.octets event.source);
      seqnos = whole.seqnos;
      growths = law.1.0;
      speaker = seen t;
      moves = subst (λ (x : Seen). Moves (neighbour_of event) (updates_read (meaning event.octets event.source)) law.1.0 x.announces x (seen t)) (sym (speaker_seen old.ours event.node s is)) (subst (λ (u : State). Moves (neighbour_of event) (updates_read (meaning event.octets event.source)) law.1.0 (seen s).announces (seen s) (seen u)) (sym after) law.1.1);
      next = same_world (mixed_world new) (with_speaker (world_of old.ours) event.node (seen t)) (old.heard ++ updates_read (meaning event.octets event.source)) (ap world_of next ∙ world_with_speaker old.ours event.node t) heard;
    }

node_refuses : MixedLaws → (event : HearEvent) (old new : MixedState) (s t : State) → IsMixed old → slice_get old.ours.speakers event.node ≡ Some s → t ≡ s → new.ours ≡ with_speaker_state old.ours event.node t → new.heard ≡ old.heard ++ [] → IsMixed new
node_refuses laws event old new s t mixed is after next heard =
    subst IsMixed (sym (same new old.ours old.heard ours (heard ∙ append-nil old.heard))) mixed
  where
    ours : new.ours ≡ old.ours
    ours = next ∙ ap (with_speaker_state old.ours event.node) after ∙ written_back old.ours event.node s is

    same : (v : MixedState) (ours : NetworkState) (heard : List UpdateValue) → v.ours ≡ ours → v.heard ≡ heard → v ≡ record { ours = ours; heard = heard }
    same v ours heard one other = ap (λ x. record v { ours = x }) one ∙ ap (λ x. record v { ours = ours; heard = x }) other

pub mixed_heard : MixedLaws → HearingKeepsMixed
mixed_heard laws event old new whole mixed made = by made.made.hearing made.made.hears.hears made.made.records
  where
    at : HearsAt event made.made.hearing old.ours new.ours
    at = made.made.hears

    by : (hearing : Hearing) → HearsAs hearing event made.made.hears.speaker made.made.hears.after → new.heard ≡ old.heard ++ updates_by hearing event → IsMixed new
    by Received h heard = node_hears laws event old new at.speaker at.after h.0 whole mixed made.is_foreign at.is h.2 h.3 at.next heard
    by Refused h heard = node_refuses laws event old new at.speaker at.after mixed at.is h.1 at.next heard

-- ---- no loop

pub mixed_no_loop : NoLoopOfNeighbours → NoLoopOfNextHops → MixedHasNoLoop
mixed_no_loop neighbours next_hops n mixed = (no_loop, no_forwarding_loop)
  where
    was : IsReached n.ours.configs (mixed_world n)
    was = mixed.reached

    no_loop : HasNoLoopOfOurs n
    no_loop prefix router start half =
        subst (λ (w : ForeignWorld). NoLoopNaming n.ours.configs w.ours prefix router) was.last
        (neighbours n.ours.configs was.first was.events was.worlds prefix router start mixed.running.apart was.is_first was.happened
        (subst (AreInHalf prefix router start) (sym was.last) half))

    no_forwarding_loop : HasNoForwardingLoopOfOurs n
    no_forwarding_loop prefix router start half none =
        subst (λ (w : ForeignWorld). NoForwardingLoop n.ours.configs w.ours prefix router) was.last
        (next_hops n.ours.configs was.first was.events was.worlds prefix router start mixed.running.apart was.is_first was.happened
        (subst (AreInHalf prefix router start) (sym was.last) half) (subst (NamesNoNode n.ours.configs prefix router) (sym was.last) none))
