-- A prefix that was removed isn't announced.
use Rattle.std.proofs.Common.{is_some, ap, ◌∙◌}
use Rattle.std.specs.FinMap.{find}
use Rattle.babel_state.specs.State.{PrefixSet}
use Rattle.babel_value.specs.Orders.{prefix_cmp}
use Rattle.babel_speaker.proofs.OwnPrefixes.{removed_is_gone}
use Rattle.babel_speaker.proofs.tables.announced.Announced.remove_near.Goals as goal

pub returns-clause-gone : goal.returns-clause-gone
returns-clause-gone c =
    ap (λ (es : PrefixSet). is_some (find prefix_cmp c.args.prefix.now es)) c.remove_at.ensures.entries ∙ removed_is_gone c.args.prefix.now c.self.inside.table.entries.items
