-- A block more is read, and at the end all are, or one can't be.
use Rattle.std.proofs.Common.{◌≡◌, ◌*◌, ◌∙◌, length, arith, ltb-false, ltb-true}
use Rattle.std.proofs.lemmas.List.{length-take-le}
use Rattle.babel_text.proofs.Digits.{all_are_read, block_is_read, one_is_refused}
use Rattle.babel_text.proofs.octets.decode.Goals as goal

pub loop-start-preserved : goal.loop-start-preserved
loop-start-preserved c =
    let twice : length c.read_digits-seen.new.values ≡ 2 * c.block_len-count.result =
    c.read_digits-seen.ensures.length ∙ length-take-le (2 * c.block_len-count.result) c.loop-start.room (omega arith) in (
      block_is_read c.args.text.now c.read_digits-seen.new.values c.loop-start.octets c.join_digits.new.octets c.loop-start.start c.block_len-count.result
          c.loop-start.seen c.read_digits-seen.result twice (
            c.read_digits-seen.ensures.values,
            (c.read_digits-seen.ensures.digits, c.read_digits-seen.ensures.refused),
            c.join_digits.ensures.before,
            c.join_digits.ensures.joined,
          )
          c.loop-start.invariant.0,
      omega (arith, c.join_digits.ensures.length),
    )

pub returns-clause-read : goal.returns-clause-read
returns-clause-read c below =
    all_are_read c.args.text.now c.loop-start.octets c.loop-start.start c.loop-start.seen (omega arith) (omega arith) (ltb-true _ _ below) c.loop-start.invariant.0

pub returns-clause-refused : goal.returns-clause-refused
returns-clause-refused c above =
    one_is_refused c.args.text.now c.loop-start.octets c.loop-start.start c.loop-start.seen (omega arith) (omega arith) (ltb-false _ _ above) c.loop-start.invariant.0
