-- Each configuration so far has its speaker, and the rest have no fault.
use Rattle.std.proofs.Common.{◌≡◌, ◌-◌, ◌≤◌, ◌<◌, All, None, drop, take, length, map}
use Rattle.std.specs.Vec.{vec_len, vec_capacity}
use Rattle.babel_state.specs.declared.configs.Config.{Config}
use Rattle.babel_state.specs.Calls.{first_state}
use Rattle.babel_machine.specs.Acceptance.{first_bad_from}
use Rattle.babel_net.proofs.nodes.speakers_of.Given as goal

abbrev pub invariant-loop-node : goal.invariant-loop-node
invariant-loop-node l = record {
  inside : l.node ≤ length l.configs;
  done : l.speakers.items ≡ map first_state (take l.node l.configs);
  words : All (λ (c : Config). c.seqno < 65536) (take l.node l.configs);
  none : first_bad_from l.node (drop l.node l.configs) ≡ None;
  len : vec_len l.speakers ≡ l.node;
  room : length l.configs ≤ vec_capacity l.speakers;
}

abbrev pub decreases-loop-node : goal.decreases-loop-node
decreases-loop-node l = length l.configs - l.node
