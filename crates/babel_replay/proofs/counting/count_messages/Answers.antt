use Rattle.babel_replay.proofs.MessageCounts.{counts_messages}
use Rattle.babel_replay.proofs.counting.count_messages.Goals as goal

pub returns : goal.returns
returns c = counts_messages c.reasons_are_the_first_that_apply.ensures.state c.args.datagram.now c.body.result.now c.count_tlvs.result c.body.ensures c.count_tlvs.ensures
