-- The speaker that restarts is the node's, and its configuration is the node's.
use Rattle.std.proofs.Common.{◌≡◌, get_or, slice_set, subst, refl}
use Rattle.babel_net.specs.Networks.{NetworkState, with_speaker_state}
use Rattle.babel_net.proofs.CallFaults.{speaker_read, config_read, restart_made, restart_same}
use Rattle.babel_net.proofs.HappeningEvents.{router_at}
use Rattle.babel_net.proofs.nodes.Nodes.restart.Goals as goal

pub restart-requires-clause-router : goal.restart-requires-clause-router
restart-requires-clause-router c =
    let n = c.args.self.now in
    let s = c.index_mut.result.now in
    let config = c.index.result.now in
    let speaker = speaker_read n c.args.node s c.requires.inside (subst (λ (m : NetworkState). s ≡ get_or m.speakers c.args.node s) c.self.view_is c.index_mut.ensures.value) in
    let configured = config_read n c.args.node config c.requires.sound c.requires.inside (subst (λ (m : NetworkState). config ≡ get_or m.configs c.args.node config) c.self.view_is c.index.ensures) in
    router_at n c.args.node s config c.requires.sound speaker configured

pub returns : goal.returns
returns c =
    let n = c.args.self.now in
    let node = c.args.node in
    let s = c.index_mut.result.now in
    let t = c.restart.new.speaker in
    let config = c.index.result.now in
    let after : NetworkState = record { configs = c.self.inside.configs.items; speakers = slice_set c.self.inside.speakers.items node t; sent = c.self.inside.sent } in
    let next : after ≡ with_speaker_state n node t = subst (λ (m : NetworkState). after ≡ with_speaker_state m node t) c.self.view_is refl in
    let speaker = speaker_read n node s c.requires.inside (subst (λ (m : NetworkState). s ≡ get_or m.speakers node s) c.self.view_is c.index_mut.ensures.value) in
    let configured = config_read n node config c.requires.sound c.requires.inside (subst (λ (m : NetworkState). config ≡ get_or m.configs node config) c.self.view_is c.index.ensures) in
    record {
      ok = restart_made c.restart.result node c.args.now n after s t config speaker configured next c.restart.ensures.ok;
      refused = c.restart.ensures.refused;
      err = restart_same c.restart.result node n after s t speaker next c.restart.ensures.err;
    }
