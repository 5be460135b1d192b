use Rattle.std.proofs.Common.{◌≡◌, sym, ◌∙◌, subst, true}
use Rattle.babel_build.specs.Built.{Built, fits}
use Rattle.babel_speaker.proofs.Drafts.{add_taken, add_encoded}
use Rattle.babel_speaker.proofs.output.datagrams.add_item.Goals as goal

pub returns-else-not-add-clause-draft : goal.returns-else-not-add-clause-draft
returns-else-not-add-clause-draft c = λ b ms has.
    let P : Built → Type 0 = λ u. true ≡ fits u c.in-Message.message in
    add_taken c.args.departure.now b c.args.departure.target c.in-Message.to c.args.core.now c.send_message.new.core ms c.in-Message.message _
    (sym c.in-Message.is ∙ c.outgoing.ensures.message) (sym c.is_same_target.ensures.same ∙ c.if-not-is_same_target.false) (sym (subst P has c.if-not-add.ensures.fits)) c.send_message.ensures.state

pub returns-else-not-add-clause-encoded : goal.returns-else-not-add-clause-encoded
returns-else-not-add-clause-encoded c = λ ms has fits whole.
    add_encoded c.add.new.self ms c.in-Message.message _ c.in-Message.to (sym c.in-Message.is ∙ c.outgoing.ensures.message) (c.if-not-add.ensures.decoded ms has fits) whole
