use Rattle.std.proofs.Common.{◌<◌, length, sym, subst, arith}
use Rattle.babel_state.specs.declared.configs.Config.{Config}
use Rattle.babel_net.proofs.FirstNetworks.{words_more, states_more, none_more}
use Rattle.babel_net.proofs.nodes.speakers_of.Goals as goal

pub loop-node-preserved : goal.loop-node-preserved
loop-node-preserved c =
    let configs = c.args.configs.now in
    let config = c.index-configs-node-in-loop-node.result in
    let here : c.loop-node.node < length configs = omega arith in
    record {
      inside = omega arith;
      done = states_more configs c.loop-node.node config c.loop-node.speakers.items c.push_reserved.new.self.items c.in-Ok-from_config.speaker here c.index-configs-node-in-loop-node.is c.loop-node.invariant.done c.in-Ok-from_config.ensures.ok c.push_reserved.ensures.items;
      words = words_more configs c.loop-node.node c.index-configs-node.result here c.index-configs-node.is (subst (λ (d : Config). d.seqno < 65536) (sym c.index-configs-node.is) c.seqno_fits.ensures) c.loop-node.invariant.words;
      none = none_more configs c.loop-node.node config here c.index-configs-node-in-loop-node.is c.loop-node.invariant.none;
      len = omega arith;
      room = omega arith;
    }
