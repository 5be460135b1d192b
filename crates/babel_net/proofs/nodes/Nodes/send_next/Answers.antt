use Rattle.std.proofs.Common.{◌<◌, length, refl, subst, arith}
use Rattle.babel_machine.specs.declared.events.Event.TheVariants as events
use Rattle.babel_net.specs.Networks.{NetworkState}
use Rattle.babel_net.proofs.CallFaults.{emit_accepted}
use Rattle.babel_net.proofs.nodes.Nodes.send_next.Goals as goal

pub returns-clause-accepted : goal.returns-clause-accepted
returns-clause-accepted c =
    let n = c.args.self.now in
    let here : c.args.node < length c.self.inside.speakers.items = omega (arith, c.self.inside.speakers.ok.0) in
    let inside : c.args.node < length n.speakers = subst (λ (m : NetworkState). c.args.node < length m.speakers) c.self.view_is here in
    emit_accepted c.record_next.result (events.Emit c.args.node c.args.now) c.args.node c.args.now n c.requires refl inside
