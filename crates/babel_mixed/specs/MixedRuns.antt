-- Lists of events in a network of ours among routers of others, what is heard among them, and what is promised along them (profile).
use Rattle.std.specs.Prelude.{◌≡◌, ℕ, List, [], ◌∷◌, All, Option, Some, None, slice_get, take}
use Rattle.std.specs.Option.{option_map}
use Rattle.babel_machine.specs.Codes.{step_code}
use Rattle.babel_mixed.specs.declared.events.MixedEvent.{MixedEvent}
use Rattle.babel_mixed.specs.declared.events.MixedEvent.TheVariants as events
use Rattle.babel_mixed.specs.declared.events.MixedFault.{MixedFault}
use Rattle.babel_mixed.specs.declared.events.MixedFault.TheVariants as faults
use Rattle.babel_net.specs.EventRefusals.{step_fault, IsStepFault}
use Rattle.babel_net.specs.HearFaults.{hear_code, hear_fault, IsHearFault}
use Rattle.babel_mixed.specs.MixedNetworks.{MixedState, MakesHear}
use Rattle.babel_mixed.specs.Mixed.{HasNoLoopOfOurs, HasNoForwardingLoopOfOurs}
use Rattle.babel_net.specs.Steps.{Makes}

-- ---- one event

-- An event of ours makes its step, and leaves what was heard. What is heard makes its own.
abbrev pub MakesMixed : MixedEvent → MixedState → MixedState → Type 0
MakesMixed (events.Ours event) old new = Makes event old.ours new.ours × (new.heard ≡ old.heard)
MakesMixed (events.Heard event) old new = MakesHear event old new

-- Why it is refused: the first cause that holds. Memory is none of its own.
abbrev pub mixed_fault : MixedEvent → MixedState → Option MixedFault
mixed_fault (events.Ours event) n = option_map faults.Ours (step_fault event n.ours)
mixed_fault (events.Heard event) n = option_map faults.Heard (hear_fault event n.ours)

-- The first cause; or N6, if there is none and an allocation failed. An event of ours has its own faults, and what is heard has its own.
abbrev pub IsMixedFault : MixedEvent → MixedState → MixedFault → Type 0
IsMixedFault (events.Ours event) n (faults.Ours fault) = IsStepFault (step_fault event n.ours) event n.ours fault
IsMixedFault (events.Heard event) n (faults.Heard fault) = IsHearFault (hear_fault event n.ours) fault
IsMixedFault event n fault = ⊥

abbrev pub mixed_code : MixedFault → List ℕ
mixed_code (faults.Ours fault) = step_code fault
mixed_code (faults.Heard fault) = hear_code fault

-- ---- lists of events

-- Events make their steps one after the other, and these are the networks after each of them.
abbrev pub MakeAllMixed : List MixedEvent → MixedState → List MixedState → Type 0
MakeAllMixed [] old [] = Unit {0}
MakeAllMixed [] old (n ∷ ns) = ⊥
MakeAllMixed (event ∷ events) old [] = ⊥
MakeAllMixed (event ∷ events) old (n ∷ ns) = MakesMixed event old n × (mixed_fault event old ≡ None) × MakeAllMixed events n ns

abbrev pub last_mixed : MixedState → List MixedState → MixedState
last_mixed n [] = n
last_mixed n (next ∷ rest) = last_mixed next rest

-- The events make their steps from one network to another. After each of them, our nodes make no loop, neither by the neighbours of
-- their selected routes nor by the next hops.
pub record RanMixed (events : List MixedEvent) (old new : MixedState) : Type 0 where
  pub networks : List MixedState
  pub made : MakeAllMixed events old networks
  pub last : last_mixed old networks ≡ new
  pub no_loop : All HasNoLoopOfOurs networks
  pub no_forwarding_loop : All HasNoForwardingLoopOfOurs networks

-- The event of this index is the first that is refused.
pub record StopsMixedAt (events : List MixedEvent) (index : ℕ) (fault : MixedFault) (old new : MixedState) : Type 0 where
  pub event : MixedEvent
  pub is : slice_get events index ≡ Some event
  pub ran : RanMixed (take index events) old new
  pub refused : IsMixedFault event new fault
