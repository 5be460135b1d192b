use Rattle.std.proofs.Common.{◌≡◌, ◌<◌, ℕ, Some, length, get_or, slice_get, slice_set, IfErr, ap, ◌∙◌, subst, arith}
use Rattle.babel_state.specs.State.{State}
use Rattle.babel_net.specs.Networks.{NetworkState, with_speaker_state}
use Rattle.babel_net.specs.EventRefusals.{node_of, deliver_fault, IsFaultOrMemory}
use Rattle.babel_net.proofs.HappeningEvents.{room_to_announce}
use Rattle.babel_net.proofs.CallFaults.{speaker_read, config_read, is_call, IsCalled, called_ok, called_accepted, called_refused, called_same, emit_accepted, restart_accepted, deliver_refused_at}
use Rattle.babel_net.proofs.nodes.Nodes.step.Goals as goal

pub call-requires : goal.call-requires
call-requires c =
    let n = c.args.self.now in
    let node = c.node_of-node.result in
    let s = c.index_mut.result.now in
    let config = c.index.result.now in
    let here : node < length c.self.inside.speakers.items = omega (arith, c.self.inside.speakers.ok.0) in
    let inside : node < length n.speakers = subst (λ (m : NetworkState). node < length m.speakers) c.self.view_is here in
    let speaker = speaker_read n node s inside (subst (λ (m : NetworkState). s ≡ get_or m.speakers node s) c.self.view_is c.index_mut.ensures.value) in
    let configured = config_read n node config c.requires inside (subst (λ (m : NetworkState). config ≡ get_or m.configs node config) c.self.view_is c.index.ensures) in
    λ prefix listed. room_to_announce n node s config prefix c.requires speaker configured listed

pub returns-in-Emit-clause-accepted : goal.returns-in-Emit-clause-accepted
returns-in-Emit-clause-accepted c =
    let n = c.args.self.now in
    let here : node_of c.args.event.now < length c.self.inside.speakers.items = omega (arith, c.self.inside.speakers.ok.0) in
    let inside : node_of c.args.event.now < length n.speakers = subst (λ (m : NetworkState). node_of c.args.event.now < length m.speakers) c.self.view_is here in
    emit_accepted c.emit.result c.args.event.now c.in-Emit.node c.in-Emit.now n c.requires c.in-Emit.is inside

pub returns-in-Restart-clause-accepted : goal.returns-in-Restart-clause-accepted
returns-in-Restart-clause-accepted c =
    let n = c.args.self.now in
    let here : node_of c.args.event.now < length c.self.inside.speakers.items = omega (arith, c.self.inside.speakers.ok.0) in
    let inside : node_of c.args.event.now < length n.speakers = subst (λ (m : NetworkState). node_of c.args.event.now < length m.speakers) c.self.view_is here in
    restart_accepted c.restart.result c.args.event.now c.in-Restart.node c.in-Restart.now n c.requires c.in-Restart.is inside

pub returns-in-Deliver-clause-refused : goal.returns-in-Deliver-clause-refused
returns-in-Deliver-clause-refused c =
    let n = c.args.self.now in
    let here : node_of c.args.event.now < length c.self.inside.speakers.items = omega (arith, c.self.inside.speakers.ok.0) in
    let inside : node_of c.args.event.now < length n.speakers = subst (λ (m : NetworkState). node_of c.args.event.now < length m.speakers) c.self.view_is here in
    deliver_refused_at c.deliver.result c.args.event.now c.in-Deliver.datagram c.in-Deliver.node c.in-Deliver.iface c.in-Deliver.now n c.requires c.in-Deliver.is inside
    (subst (λ (k : ℕ). IfErr c.deliver.result (λ fault. (s : State) → slice_get n.speakers k ≡ Some s → IsFaultOrMemory (deliver_fault c.in-Deliver.datagram c.in-Deliver.iface s n) fault)) c.node_of-node.ensures c.deliver.ensures.refused)

pub returns-in_default : goal.returns-in_default
returns-in_default c =
    let n = c.args.self.now in
    let event = c.args.event.now in
    let s = c.index_mut.result.now in
    let t = c.call.new.speaker in
    let config = c.index.result.now in
    let after : NetworkState = record { configs = c.self.inside.configs.items; speakers = slice_set c.self.inside.speakers.items c.node_of-node.result t; sent = c.self.inside.sent } in
    let here : node_of c.args.event.now < length c.self.inside.speakers.items = omega (arith, c.self.inside.speakers.ok.0) in
    let inside : node_of c.args.event.now < length n.speakers = subst (λ (m : NetworkState). node_of c.args.event.now < length m.speakers) c.self.view_is here in
    let s_read : s ≡ get_or c.self.inside.speakers.items (node_of c.args.event.now) s = c.index_mut.ensures.value ∙ ap (λ (k : ℕ). get_or c.self.inside.speakers.items k s) c.node_of-node.ensures in
    let c_read : config ≡ get_or c.self.inside.configs.items (node_of c.args.event.now) config = c.index.ensures ∙ ap (λ (k : ℕ). get_or c.self.inside.configs.items k config) c.node_of-node.ensures in
    let at : IsCalled c.args.event.now c.args.self.now c.index_mut.result.now c.index.result.now = record {
      is = is_call event c.in_default.not-Emit c.in_default.not-Deliver c.in_default.not-Restart;
      speaker = speaker_read n (node_of event) s inside (subst (λ (m : NetworkState). s ≡ get_or m.speakers (node_of event) s) c.self.view_is s_read);
      config = config_read n (node_of event) config c.requires inside (subst (λ (m : NetworkState). config ≡ get_or m.configs (node_of event) config) c.self.view_is c_read);
    } in
    let next : after ≡ with_speaker_state n (node_of event) t =
    subst (λ (m : NetworkState). after ≡ with_speaker_state m (node_of event) t) c.self.view_is
    (ap (λ (k : ℕ). let m : NetworkState = record { configs = c.self.inside.configs.items; speakers = slice_set c.self.inside.speakers.items k t; sent = c.self.inside.sent } in m) c.node_of-node.ensures) in
    record {
      ok = called_ok c.call.result event n after s t config at next c.call.ensures.ok;
      accepted = called_accepted c.call.result event n s config at c.call.ensures.accepted;
      refused = called_refused c.call.result event n s config at c.call.ensures.refused;
      err = called_same c.call.result event n after s t config at next c.call.ensures.err;
    }
