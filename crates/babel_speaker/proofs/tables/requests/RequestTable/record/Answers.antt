-- The new request is due no earlier than the least moment.
use Rattle.std.proofs.Common.{◌∙◌, arith}
use Rattle.babel_state.specs.declared.requests.PendingRequest.{PendingRequest}
use Rattle.babel_speaker.proofs.RequestDues.{recorded_due}
use Rattle.babel_speaker.proofs.tables.requests.RequestTable.record.Goals as goal

pub invariant_of-self : goal.invariant_of-self
invariant_of-self c =
    let old = c.self.inside in
    let request : PendingRequest = record { seqno = c.args.seqno; resend = c.args.resend; wait = 200; due = c.saturating_add-due.result } in (
      c.store_near.ensures.room ∙ c.self.invariant.0,
      recorded_due c.store_near.result c.min-self-inside.result old.due c.args.source request old.table.entries.items c.store_near.new.table.entries.items (omega (arith, c.min-self-inside.ensures)) (omega (arith, c.min-self-inside.ensures)) c.store_near.ensures.ok c.store_near.ensures.err c.self.invariant.1,
    )
