-- Lists of events, one after the other.
use Rattle.std.proofs.Common.{◌≡◌, ◌<◌, ◌+◌, ℕ, zero, suc, length, take, get_or, List, [], ◌∷◌, ◌++◌, All, Option, Some, None, Result, Ok, Err, OnOk, OnErr, map, refl, sym, ap, ◌∙◌, subst}
use Rattle.std.proofs.Math.Seq.{take-length}
use Rattle.std.proofs.lemmas.List.{take_more}
use Rattle.std.proofs.lemmas.Option.{slice_get_read}
use Rattle.babel_state.specs.declared.configs.Config.{Config}
use Rattle.babel_machine.specs.declared.errors.StepFault.{StepFault}
use Rattle.babel_machine.specs.declared.events.Event.{Event}
use Rattle.babel_machine.specs.declared.events.Event.TheVariants as events
use Rattle.babel_machine.specs.Happenings.{Happens, HappenAll, last_world}
use Rattle.babel_machine.specs.Cycle.{NoCycle}
use Rattle.babel_machine.specs.NetworkLaws.{SoundRunsTogether, RunTogetherThrough, views}
use Rattle.babel_machine.specs.Views.{IsSource, IsCounted}
use Rattle.babel_machine.specs.Worlds.{World}
use Rattle.babel_net.specs.Networks.{NetworkState, SentOctets, with_speaker_state, world_of}
use Rattle.babel_speaker.specs.Sending.{draft_at}
use Rattle.babel_net.specs.Steps.{MakesCall, MakesEmit, Makes, recorded}
use Rattle.babel_net.specs.EventRefusals.{node_of, step_fault, IsStepFault}
use Rattle.babel_net.specs.Invariants.{IsNetwork}
use Rattle.babel_net.specs.Laws.{EventsHappen, EventsKeepNetworks}
use Rattle.babel_net.proofs.Running.{running}
use Rattle.babel_net.specs.Promises.{MakeAll, last_network, RanBy, RunsTogether, Ran, StopsAt}

-- ---- configurations stay

call_configs : (event : Event) (old new : NetworkState) → MakesCall (node_of event) event old new → new.configs ≡ old.configs
call_configs event old new made = ap (λ (n : NetworkState). n.configs) made.next

emit_configs : (node now : ℕ) (old new : NetworkState) → MakesEmit node now old new → new.configs ≡ old.configs
emit_configs node now old new made = by made.sent (with_speaker_state old node (draft_at now made.speaker).state) refl made.next
  where
    by : (sent : Option SentOctets) (mid : NetworkState) → mid.configs ≡ old.configs → new ≡ recorded mid sent → new.configs ≡ old.configs
    by None mid same next = ap (λ (n : NetworkState). n.configs) next ∙ same
    by (Some d) mid same next = ap (λ (n : NetworkState). n.configs) next ∙ same

pub same_configs : (event : Event) (old new : NetworkState) → Makes event old new → new.configs ≡ old.configs
same_configs (events.Tick node now) old new made = call_configs (events.Tick node now) old new made
same_configs (events.Emit node now) old new made = emit_configs node now old new made
same_configs (events.Deliver number node iface now) old new made = ap (λ (n : NetworkState). n.configs) made.next
same_configs (events.SetCost node iface cost) old new made = call_configs (events.SetCost node iface cost) old new made
same_configs (events.Raise node) old new made = call_configs (events.Raise node) old new made
same_configs (events.RequestSeqnos node now) old new made = call_configs (events.RequestSeqnos node now) old new made
same_configs (events.LoseLinks node iface now) old new made = call_configs (events.LoseLinks node iface now) old new made
same_configs (events.GroupItems node) old new made = call_configs (events.GroupItems node) old new made
same_configs (events.Announce node prefix) old new made = call_configs (events.Announce node prefix) old new made
same_configs (events.Withdraw node prefix) old new made = call_configs (events.Withdraw node prefix) old new made
same_configs (events.Restart node now) old new made = ap (λ (n : NetworkState). n.configs) made.next

-- ---- one more event

make_more : (done : List Event) (event : Event) (old mid new : NetworkState) (networks : List NetworkState) → MakeAll done old networks → last_network old networks ≡ mid → Makes event mid new → step_fault event mid ≡ None → MakeAll (done ++ event ∷ []) old (networks ++ new ∷ [])
make_more [] event old mid new [] h last made ok =
    (subst (λ (n : NetworkState). Makes event n new) (sym last) made, subst (λ (n : NetworkState). step_fault event n ≡ None) (sym last) ok, tt)
make_more [] event old mid new (n ∷ ns) h last made ok = absurd h
make_more (e ∷ es) event old mid new [] h last made ok = absurd h
make_more (e ∷ es) event old mid new (n ∷ ns) h last made ok = (h.0, h.1, make_more es event n mid new ns h.2 last made ok)

last_more : (old new : NetworkState) (networks : List NetworkState) → last_network old (networks ++ new ∷ []) ≡ new
last_more old new [] = refl
last_more old new (n ∷ ns) = last_more n new ns

pub ran_more : (done : List Event) (event : Event) (old mid new : NetworkState) → RanBy done old mid → Makes event mid new → step_fault event mid ≡ None → RanBy (done ++ event ∷ []) old new
ran_more done event old mid new ran made ok = record {
  networks = ran.networks ++ new ∷ [];
  made = make_more done event old mid new ran.networks ran.made ran.last made ok;
  last = last_more old new ran.networks;
}

pub ran_none : (n : NetworkState) → RanBy [] n n
ran_none n = record { networks = []; made = tt; last = refl }

-- ---- what is seen of them

last_seen : (old : NetworkState) (networks : List NetworkState) → last_world (world_of old) (map world_of networks) ≡ world_of (last_network old networks)
last_seen old [] = refl
last_seen old (n ∷ ns) = last_seen n ns

happen_all : EventsHappen → EventsKeepNetworks → (configs : List Config) (done : List Event) (old : NetworkState) (networks : List NetworkState) → old.configs ≡ configs → IsNetwork old → MakeAll done old networks → HappenAll configs done (world_of old) (map world_of networks)
happen_all happens kept configs [] old [] same net h = tt
happen_all happens kept configs [] old (n ∷ ns) same net h = absurd h
happen_all happens kept configs (e ∷ es) old [] same net h = absurd h
happen_all happens kept configs (e ∷ es) old (n ∷ ns) same net h =
    (subst (λ (cs : List Config). Happens cs e (world_of old) (world_of n)) same (happens e old n (running old net) h.0 h.1), happen_all happens kept configs es n ns (same_configs e old n h.0 ∙ same) (kept e old n net h.0 h.1) h.2)

pub network_after : EventsKeepNetworks → (done : List Event) (old : NetworkState) (networks : List NetworkState) → IsNetwork old → MakeAll done old networks → IsNetwork (last_network old networks)
network_after kept [] old [] net h = net
network_after kept [] old (n ∷ ns) net h = absurd h
network_after kept (e ∷ es) old [] net h = absurd h
network_after kept (e ∷ es) old (n ∷ ns) net h = network_after kept es n ns (kept e old n net h.0 h.1) h.2

pub ran_network : EventsKeepNetworks → (done : List Event) (old new : NetworkState) → IsNetwork old → RanBy done old new → IsNetwork new
ran_network kept done old new net ran = subst IsNetwork ran.last (network_after kept done old ran.networks net ran.made)

runs_together : EventsHappen → EventsKeepNetworks → SoundRunsTogether → (done : List Event) (old : NetworkState) (networks : List NetworkState) → IsNetwork old → MakeAll done old networks →
    RunsTogether old networks (last_network old networks)
runs_together happens kept sound done old networks net made sources all =
    let is : last_world (world_of old) (map world_of networks) ≡ world_of (last_network old networks) = last_seen old networks in
    subst (λ (w : World). RunTogetherThrough old.configs sources (world_of old) (map world_of networks) × All NoCycle (views old.configs sources w)) is
    (sound old.configs (world_of old) done (map world_of networks) sources net.apart net.sound (happen_all happens kept old.configs done old networks refl net made)
    (subst (λ (w : World). All (λ s. IsSource old.configs s × IsCounted s w) sources) (sym is) all))

-- the first of the events make the first of the networks
make_first : (count : ℕ) (done : List Event) (old : NetworkState) (networks : List NetworkState) → MakeAll done old networks → MakeAll (take count done) old (take count networks)
make_first zero done old networks made = tt
make_first (suc count) [] old [] made = tt
make_first (suc count) [] old (n ∷ ns) made = absurd made
make_first (suc count) (e ∷ es) old [] made = absurd made
make_first (suc count) (e ∷ es) old (n ∷ ns) made = (made.0, made.1, make_first count es n ns made.2)

pub ran_together : EventsHappen → EventsKeepNetworks → SoundRunsTogether → (done : List Event) (old new : NetworkState) → IsNetwork old → RanBy done old new → Ran done old new
ran_together happens kept sound done old new net ran = record {
  ran = ran;
  together = subst (RunsTogether old ran.networks) ran.last (runs_together happens kept sound done old ran.networks net ran.made);
  after_each = λ count.
      runs_together happens kept sound (take count done) old (take count ran.networks) net (make_first count done old ran.networks ran.made);
}

-- the network after an event that made its step, or was refused
pub after_step : {T : Type 0} → EventsKeepNetworks → (r : Result T StepFault) (event : Event) (old new : NetworkState) → IsNetwork old → OnOk r (Makes event old new) → OnOk r (step_fault event old ≡ None) → OnErr r (new ≡ old) → IsNetwork new
after_step kept (Ok done) event old new net made ok same = kept event old new net made ok
after_step kept (Err fault) event old new net made ok same = subst IsNetwork (sym same) net

-- ---- a loop over events

pub ran_step : (events : List Event) (i : ℕ) (event : Event) (old mid new : NetworkState) → i < length events → event ≡ get_or events i event → RanBy (take i events) old mid → Makes event mid new → step_fault event mid ≡ None → RanBy (take (i + 1) events) old new
ran_step events i event old mid new inside is ran made ok =
    subst (λ (es : List Event). RanBy es old new)
    (sym (take_more events i event inside ∙ ap (λ (e : Event). take i events ++ e ∷ []) (sym is)))
    (ran_more (take i events) event old mid new ran made ok)

pub ran_all : (events : List Event) (i : ℕ) (old new : NetworkState) → i ≡ length events → RanBy (take i events) old new → RanBy events old new
ran_all events i old new end ran = subst (λ (es : List Event). RanBy es old new) (ap (λ n. take n events) end ∙ take-length events) ran

pub stops : (events : List Event) (i : ℕ) (event : Event) (fault : StepFault) (old mid new : NetworkState) → i < length events → event ≡ get_or events i event → Ran (take i events) old mid → new ≡ mid → IsStepFault (step_fault event mid) event mid fault → StopsAt events i fault old new
stops events i event fault old mid new inside is ran same refused =
    subst (StopsAt events i fault old) (sym same) (record {
      event = event;
      is = slice_get_read events (length events) i event refl inside is;
      ran = ran;
      refused = refused;
    })
