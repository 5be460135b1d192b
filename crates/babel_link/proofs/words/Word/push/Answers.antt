-- A bit put under the others is a mark put before the others, and it fits.
use Rattle.std.proofs.Common.{◌≡◌, arith}
use Rattle.babel_link.specs.Words.{is_received}
use Rattle.babel_link.proofs.WordLemmas.{marks_of-push, marks_of-push_full, pushed_fits}
use Rattle.babel_link.proofs.words.Word.push.Goals as goal

pub invariant_of-self-else-self-lt-ROOM : goal.invariant_of-self-else-self-lt-ROOM
invariant_of-self-else-self-lt-ROOM c =
    let full : c.self.inside.count ≡ 16 = omega arith in
    (omega arith, rw (full, c.bit.ensures) (pushed_fits c.self.inside.bits (is_received c.args.mark)))

pub returns-then-self-lt-ROOM : goal.returns-then-self-lt-ROOM
returns-then-self-lt-ROOM c =
    rw (← c.self.view_is, c.bit.ensures) (marks_of-push _ _ (is_received c.args.mark) (omega arith) c.self.invariant.1)

pub returns-else-self-lt-ROOM : goal.returns-else-self-lt-ROOM
returns-else-self-lt-ROOM c = rw (← c.self.view_is, c.bit.ensures) (marks_of-push_full _ _ (is_received c.args.mark) (omega arith))
