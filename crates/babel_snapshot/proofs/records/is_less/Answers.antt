-- A record has more octets than those that name its source.
use Rattle.std.proofs.Common.{sym, arith}
use Rattle.std.proofs.lemmas.List.{length-take-le}
use Rattle.babel_snapshot.proofs.records.is_less.Goals as goal

pub slice_bounds-first-end : goal.slice_bounds-first-end
slice_bounds-first-end c = sym (length-take-le 26 c.args.first.now (omega (arith, c.requires.first)))

pub slice_bounds-second-end : goal.slice_bounds-second-end
slice_bounds-second-end c = sym (length-take-le 26 c.args.second.now (omega (arith, c.requires.second)))
