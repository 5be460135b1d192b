-- A network of ours among routers of others after a call.
use Rattle.std.proofs.Common.{◌≡◌, ℕ, List, Option, Some, None, Result, Ok, Err, is_some, OnOk, OnErr, cond, slice_get, refl, sym, ap, ◌∙◌, subst}
use Rattle.std.specs.BTreeMap.{BTreeMap}
use Rattle.std.proofs.lemmas.Option.{none-some}
use Rattle.babel_value.specs.declared.addresses.Addr.{Addr}
use Rattle.babel_state.specs.Seen.{UpdateValue}
use Rattle.babel_machine.specs.declared.events.Event.{Event}
use Rattle.babel_machine.specs.declared.errors.StepFault.{StepFault}
use Rattle.babel_machine.specs.ForeignWorlds.{HearEvent}
use Rattle.babel_machine.specs.Owners.{owner_of}
use Rattle.babel_net.specs.declared.hearing.HearFault.{HearFault}
use Rattle.babel_net.specs.declared.hearing.HearFault.TheVariants.{OwnAddress, Memory}
use Rattle.babel_net.specs.EventRefusals.{step_fault}
use Rattle.babel_net.specs.HearFaults.{place_fault, hear_fault, IsHearFault}
use Rattle.babel_mixed.specs.MixedNetworks.{MixedState, Hears}
use Rattle.babel_mixed.specs.Mixed.{IsMixed, IsWhole, HearingKeepsMixed, EventsKeepMixed}
use Rattle.babel_net.specs.Networks.{NetworkState}
use Rattle.babel_net.specs.Owned.{AreOwners}
use Rattle.babel_net.specs.Steps.{Makes}
use Rattle.babel_net.proofs.KeptOwners.{owners_as}

abbrev pub mixed : NetworkState → List UpdateValue → MixedState
mixed ours heard = record { ours = ours; heard = heard }

-- ---- an event of ours

pub step_kept : {T : Type 0} → EventsKeepMixed → (r : Result T StepFault) (event : Event) (old new : NetworkState) (heard : List UpdateValue) → IsMixed (mixed old heard) → OnOk r (Makes event old new) → OnOk r (step_fault event old ≡ None) → OnErr r (new ≡ old) → IsMixed (mixed new heard)
step_kept kept (Ok done) event old new heard was made ok same = kept event (mixed old heard) new was made ok
step_kept kept (Err fault) event old new heard was made ok same = subst (λ (n : NetworkState). IsMixed (mixed n heard)) (sym same) was

-- ---- a datagram that is heard

-- without a fault the address is no node's
foreign : (event : HearEvent) (n : NetworkState) → hear_fault event n ≡ None → owner_of n.configs event.source ≡ None
foreign event n none = by (owner_of n.configs event.source) (place_fault event.iface (slice_get n.speakers event.node)) none
  where
    by : (o : Option ℕ) (place : Option HearFault) → cond (is_some o) (Some OwnAddress) place ≡ None → o ≡ None
    by None place none = refl
    by (Some node) place none = absurd (none-some OwnAddress (sym none))

-- and nothing refuses it but memory
pub memory_alone : (event : HearEvent) (n : NetworkState) (fault : HearFault) → hear_fault event n ≡ None → IsHearFault (place_fault event.iface (slice_get n.speakers event.node)) fault → fault ≡ Memory
memory_alone event n fault none = by (owner_of n.configs event.source) (place_fault event.iface (slice_get n.speakers event.node)) none
  where
    by : (o : Option ℕ) (place : Option HearFault) → cond (is_some o) (Some OwnAddress) place ≡ None → IsHearFault place fault → fault ≡ Memory
    by (Some node) place none h = absurd (none-some OwnAddress (sym none))
    by None None none h = h
    by None (Some cause) none h = absurd (none-some cause (sym none))

pub hear_kept : {T : Type 0} → HearingKeepsMixed → (r : Result T HearFault) (event : HearEvent) (old new : NetworkState) (earlier before now : List UpdateValue) → IsWhole event → IsMixed (mixed old earlier) → before ≡ earlier → hear_fault event old ≡ None → OnOk r (Hears event old new before now) → OnErr r ((new ≡ old) × (now ≡ before)) → IsMixed (mixed new now)
hear_kept kept (Ok done) event old new earlier before now whole was same free made unchanged =
    kept event (mixed old before) (mixed new now) whole (subst (λ (us : List UpdateValue). IsMixed (mixed old us)) (sym same) was) (record { is_foreign = foreign event old free; made = made })
hear_kept kept (Err fault) event old new earlier before now whole was same free made unchanged =
    subst (λ (us : List UpdateValue). IsMixed (mixed new us)) (sym (unchanged.1 ∙ same))
    (subst (λ (n : NetworkState). IsMixed (mixed n earlier)) (sym unchanged.0) was)

pub hear_owners : {T : Type 0} (r : Result T HearFault) (event : HearEvent) (old new : NetworkState) (before now : List UpdateValue) (nodes : BTreeMap Addr ℕ) → AreOwners old.configs nodes → OnOk r (Hears event old new before now) → OnErr r ((new ≡ old) × (now ≡ before)) → AreOwners new.configs nodes
hear_owners (Ok done) event old new before now nodes owners made unchanged =
    owners_as old.configs new.configs nodes (ap (λ (n : NetworkState). n.configs) made.hears.next) owners
hear_owners (Err fault) event old new before now nodes owners made unchanged =
    owners_as old.configs new.configs nodes (ap (λ (n : NetworkState). n.configs) unchanged.0) owners
