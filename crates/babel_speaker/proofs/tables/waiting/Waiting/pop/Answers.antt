-- One more is removed, or none is left.
use Rattle.std.proofs.Common.{◌≤◌, ◌+◌, drop, length, ap, ◌∙◌, arith}
use Rattle.babel_speaker.proofs.Removing.{one_more, none_left}
use Rattle.babel_speaker.proofs.tables.waiting.Waiting.pop.Goals as goal

pub returns-then-left-gt1 : goal.returns-then-left-gt1
returns-then-left-gt1 g c = one_more c.self.inside.ring.items c.self.inside.removed ∙ ap (drop 1) c.self.view_is

pub returns-else-left-gt1 : goal.returns-else-left-gt1
returns-else-left-gt1 g c =
    let ring = c.self.inside.ring.items in
    let few : length ring ≤ c.self.inside.removed + 1 = omega (arith, c.if-left-gt1.false, c.len.ensures.len) in
    ap (λ b. b.items) c.clear.ensures ∙ none_left ring c.self.inside.removed few ∙ ap (drop 1) c.self.view_is
