use Rattle.std.proofs.Common.{◌≡◌, ◌<◌, length, set, Some, rules, sym, ◌∙◌, subst}
use Rattle.babel_machine.specs.Machine.{SourceState, Announces}
use Rattle.babel_machine.specs.MachineRefusals.{announced}
use Rattle.babel_machine.proofs.MachineAnnounced.{announces_at}
use Rattle.babel_machine.proofs.machine.source.Source.announce.Goals as goal

pub returns-clause-ok : goal.returns-clause-ok
returns-clause-ok c =
    let was : SourceState = record { owner = c.self.inside.owner; raises = c.self.inside.raises; nodes = c.self.inside.nodes.items } in
    let node = c.args.node in
    let pair = c.in-Some.pair in
    let inside : node < length was.nodes = search rules in
    let is : announced was node c.args.metric ≡ Some pair =
    subst (λ s. announced s node c.args.metric ≡ Some pair) (sym c.self.view_is) (sym c.announced.ensures ∙ c.in-Some.is) in
    subst (λ s. Announces s node c.args.metric (record was { nodes = set was.nodes node c.send.new.self })) c.self.view_is (announces_at was node c.args.metric pair c.index_mut.result.now c.send.new.self inside c.index_mut.ensures.value is c.in_ok-send.ensures.adds c.in_ok-send.ensures.pick)
