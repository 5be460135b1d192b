-- What is requested from here on leaves what all leave.
use Rattle.std.proofs.Common.{◌≡◌, drop}
use Rattle.babel_state.specs.Requesting.{request_for_each}
use Rattle.babel_speaker.proofs.state.speaker_core.Core.request_seqnos.Given as goal

abbrev pub invariant-loop-place : goal.invariant-loop-place
invariant-loop-place l = record {
  done : request_for_each l.now (drop l.place l.fn.self.routes.entries) l.self ≡ request_for_each l.now l.fn.self.routes.entries l.fn.self;
  kept : l.self.routes.entries ≡ l.fn.self.routes.entries;
}
