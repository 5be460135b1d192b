-- The datagram means the messages so far, if they can be encoded.
use Rattle.std.proofs.Common.{◌≡◌, true, take}
use Rattle.std.specs.List.{list_all}
use Rattle.babel_packet.specs.Encodable.{is_encodable}
use Rattle.babel_build.specs.Built.{HasEncoded}
use Rattle.babel_examples.proofs.callers.built.Given as goal

abbrev pub invariant-loop-message : goal.invariant-loop-message
invariant-loop-message l = record {
  source : l.builder.source ≡ l.fn.source;
  decoded : list_all is_encodable (take l.message-index l.messages) ≡ true → HasEncoded l.builder (take l.message-index l.messages);
}
