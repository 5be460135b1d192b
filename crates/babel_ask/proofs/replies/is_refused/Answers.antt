-- `any` asks each line.
use Rattle.std.proofs.Common.{bytes_eq, codes, rules}
use Rattle.std.proofs.lemmas.Iterator.Search.{any_from_yields_List}
use Rattle.std.proofs.lemmas.Iterator.Splits.{YieldsList-from_lines}
use Rattle.babel_ask.proofs.replies.is_refused.Goals as goal

pub returns : goal.returns
returns c = any_from_yields_List (λ line. bytes_eq line (codes "bad")) _ _ _ c.any.ensures.ran (YieldsList-from_lines c.args.answer.now c.lines.ensures.rest) (λ x b q k. search rules)
