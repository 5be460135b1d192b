-- What is sent is the event `Emit`, which keeps what holds of networks.
use Rattle.std.proofs.Common.{◌≡◌, Result, Ok, Err, OnOk, None, subst}
use Rattle.babel_machine.specs.NetworkLaws.{EventsAreRuns}
use Rattle.babel_machine.specs.declared.events.Event.{Event}
use Rattle.babel_machine.specs.declared.events.Event.TheVariants as events
use Rattle.babel_machine.specs.declared.errors.StepFault.{StepFault}
use Rattle.babel_net.specs.EventRefusals.{step_fault}
use Rattle.babel_net.specs.Invariants.{IsNetwork}
use Rattle.babel_net.specs.Laws.{EventsHappen}
use Rattle.babel_net.specs.Networks.{NetworkState, world_of}
use Rattle.babel_net.specs.Promises.{Runs}
use Rattle.babel_net.specs.Steps.{Makes}
use Rattle.babel_net.proofs.Chains.{after_step}
use Rattle.babel_net.proofs.KeptOwners.{step_owners}
use Rattle.babel_net.proofs.Running.{running}
use Rattle.babel_net.proofs.network.Network.emit.Goals as goal

runs_on : {T : Type 0} → EventsHappen → EventsAreRuns → (r : Result T StepFault) (event : Event) (old new : NetworkState) → IsNetwork old → OnOk r (Makes event old new) → OnOk r (step_fault event old ≡ None) → OnOk r (Runs old new)
runs_on happens runs (Ok done) event old new net made ok =
    λ s source counted. runs old.configs event (world_of old) (world_of new) s net.apart net.sound (happens event old new (running old net) made ok) source counted
runs_on happens runs (Err fault) event old new net made ok = tt

pub send_next-requires : goal.send_next-requires
send_next-requires c = running c.self.inside.nodes c.self.invariant.0

pub invariant_of-self : goal.invariant_of-self
invariant_of-self c =
    let event = events.Emit c.args.node c.args.now in (
      after_step c.networks_go_on.ensures.kept c.send_next.result event c.self.inside.nodes c.send_next.new.self c.self.invariant.0 c.send_next.ensures.ok c.send_next.ensures.accepted c.send_next.ensures.err,
      step_owners c.send_next.result event c.self.inside.nodes c.send_next.new.self c.self.inside.owners.nodes c.self.invariant.1 c.send_next.ensures.ok c.send_next.ensures.err,
    )

pub returns-clause-invariant : goal.returns-clause-invariant
returns-clause-invariant c = (invariant_of-self c).0

pub returns-clause-run : goal.returns-clause-run
returns-clause-run c =
    subst (λ (n : NetworkState). OnOk c.send_next.result (Runs n c.send_next.new.self)) c.self.view_is
    (runs_on c.networks_go_on.ensures.happens c.events_are_machine_runs.ensures c.send_next.result (events.Emit c.args.node c.args.now) c.self.inside.nodes c.send_next.new.self c.self.invariant.0 c.send_next.ensures.ok c.send_next.ensures.accepted)

pub returns-clause-no_loop : goal.returns-clause-no_loop
returns-clause-no_loop c =
    let net = (invariant_of-self c).0 in
    λ s source counted. c.sound_networks_have_no_loop.ensures.named c.send_next.new.self.configs (world_of c.send_next.new.self) s net.sound source counted

pub returns-clause-one_origin : goal.returns-clause-one_origin
returns-clause-one_origin c =
    let net = (invariant_of-self c).0 in
    λ prefix origin. c.sound_networks_have_no_loop.ensures.one_origin c.send_next.new.self.configs (world_of c.send_next.new.self) prefix origin net.sound
