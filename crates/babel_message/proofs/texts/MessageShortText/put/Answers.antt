-- The fields are written one after another.
use Rattle.std.proofs.Common.{append_assoc, sym, ◌∙◌}
use Rattle.babel_message.proofs.texts.MessageShortText.put.Goals as goal

pub returns-in-AckRequest-clause-text : goal.returns-in-AckRequest-clause-text
returns-in-AckRequest-clause-text c = rw (c.put_field.ensures.text, c.put_field-len.ensures.text, c.in-AckRequest.is) (simp append_assoc)

pub returns-in-Hello-true-default-default-clause-text : goal.returns-in-Hello-true-default-default-clause-text
returns-in-Hello-true-default-default-clause-text c =
    rw (
      c.put_field-in-Hello-true-default-default.ensures.text,
      c.put_field-len-in-Hello-true-default-default.ensures.text,
      c.in-Hello-true-default-default.is,
      sym c.in-Hello-true-default-default.unicast-is ∙ c.in-Hello-true-default-default.unicast-test,
      c.seqno.view_is,
    ) (simp append_assoc)

pub returns-in-Hello-false-default-default-clause-text : goal.returns-in-Hello-false-default-default-clause-text
returns-in-Hello-false-default-default-clause-text c =
    rw (
      c.put_field-in-Hello-false-default-default.ensures.text,
      c.put_field-len-in-Hello-false-default-default.ensures.text,
      c.in-Hello-false-default-default.is,
      sym c.in-Hello-false-default-default.unicast-is ∙ c.in-Hello-false-default-default.unicast-test,
      c.seqno-in-Hello-false-default-default.view_is,
    ) (simp append_assoc)

pub returns-in-Update-clause-text : goal.returns-in-Update-clause-text
returns-in-Update-clause-text c =
    rw (
      c.put_field-in-Update.ensures.text,
      c.put_field-len-in-Update-2.ensures.text,
      c.put_field-len-in-Update.ensures.text,
      c.put_addr-len.ensures.text,
      c.put_str-len-in-Update.ensures.text,
      c.put_source-len.ensures.text,
      c.in-Update.is,
      c.seqno-in-Update.view_is,
      c.metric.view_is,
    )
    (simp append_assoc)

pub returns-in-DumpRequest-clause-text : goal.returns-in-DumpRequest-clause-text
returns-in-DumpRequest-clause-text c = rw c.in-DumpRequest.is c.put_str.ensures.text

pub returns-in-SeqnoRequest-clause-text : goal.returns-in-SeqnoRequest-clause-text
returns-in-SeqnoRequest-clause-text c =
    rw (
      c.put_field-in-SeqnoRequest.ensures.text,
      c.put_field-len-in-SeqnoRequest.ensures.text,
      c.put_source-len-in-SeqnoRequest.ensures.text,
      c.in-SeqnoRequest.is,
      c.seqno-in-SeqnoRequest.view_is,
      c.from.ensures,
    ) (simp append_assoc)
