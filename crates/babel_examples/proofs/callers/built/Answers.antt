-- The datagram means one more message.
use Rattle.std.proofs.Common.{◌≡◌, ◌+◌, true, List, [], ◌∷◌, ◌++◌, take, refl, ap, sym, ◌∙◌, subst}
use Rattle.std.specs.List.{list_all}
use Rattle.std.proofs.Math.Bool.{and-true}
use Rattle.std.proofs.lemmas.List.{take_more}
use Rattle.std.proofs.lemmas.List.Folds.{list_all-append}
use Rattle.std.proofs.lemmas.Bool.{and_parts}
use Rattle.babel_message.specs.declared.messages.Message.{Message}
use Rattle.babel_packet.specs.Encodable.{is_encodable}
use Rattle.babel_build.specs.Built.{Built, HasEncoded}
use Rattle.babel_examples.proofs.callers.built.Goals as goal

parts : (earlier : List Message) (message : Message) → list_all is_encodable (earlier ++ message ∷ []) ≡ true →
    (list_all is_encodable earlier ≡ true) × (is_encodable message ≡ true)
parts earlier message all =
    let split = and_parts (list_all is_encodable earlier) (list_all is_encodable (message ∷ [])) (sym (list_all-append is_encodable earlier (message ∷ [])) ∙ all) in
    (split.0, sym (and-true (is_encodable message)) ∙ split.1)

pub loop-message-preserved : goal.loop-message-preserved
loop-message-preserved c =
    let all = c.args.messages.now in
    let index = c.loop-message.message-index in
    let message = c.message-item.result in
    let more : take (index + 1) all ≡ take index all ++ message ∷ [] =
    take_more all index message c.loop-message-test.true ∙ ap (λ m. take index all ++ m ∷ []) (sym c.message-item.is) in
    record {
      source = ap (λ (b : Built). b.source) c.if-not-add.ensures.added ∙ c.loop-message.invariant.source;
      decoded = λ encodable.
          let split = parts (take index all) message (rw more at encodable) in
          let decoded = c.if-not-add.ensures.decoded (take index all) (c.loop-message.invariant.decoded split.0) refl split.1 in
          subst (λ messages. HasEncoded c.add.new.self messages) (sym more) decoded;
    }
