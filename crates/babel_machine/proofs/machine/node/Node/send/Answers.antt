use Rattle.std.proofs.Common.{◌∷◌, ◌++◌, [], sym, ap, subst}
use Rattle.babel_machine.specs.Machine.{NodeState, Adds}
use Rattle.babel_machine.proofs.MachineNodes.{Adds-push}
use Rattle.babel_machine.proofs.machine.node.Node.send.Goals as goal

pub returns-clause-adds : goal.returns-clause-adds
returns-clause-adds c =
    let was = c.self.inside.sent.items in
    let pair = c.args.pair in
    subst (Adds pair c.args.self.now.sent) (sym c.in_ok-push.ensures.items) (subst (λ old. Adds pair old (was ++ pair ∷ [])) (ap (λ (n : NodeState). n.sent) c.self.view_is) (Adds-push pair was))
