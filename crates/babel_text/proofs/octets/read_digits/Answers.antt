-- One number more.
use Rattle.std.proofs.Common.{arith}
use Rattle.babel_text.proofs.Digits.{numbers_more, seen_more}
use Rattle.babel_text.proofs.octets.read_digits.Goals as goal

pub loop-index-preserved : goal.loop-index-preserved
loop-index-preserved c = (
  numbers_more c.args.text.now c.loop-index.values c.args.start c.loop-index.index c.digit-value.result (omega arith)
      c.digit-value.ensures c.loop-index.invariant.0,
  seen_more c.loop-index.values c.loop-index.index c.loop-index.seen c.digit-value.result (omega arith) c.loop-index.invariant.1,
)
