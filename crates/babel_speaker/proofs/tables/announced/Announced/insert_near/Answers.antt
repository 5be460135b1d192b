-- A prefix that is announced already changes nothing, and one that is new is announced then.
use Rattle.std.proofs.Common.{◌≡◌, true, is_some, sym, ap, subst, ◌∙◌}
use Rattle.std.specs.FinMap.{find, put}
use Rattle.babel_state.specs.State.{PrefixSet}
use Rattle.babel_value.specs.Orders.{prefix_cmp}
use Rattle.babel_speaker.proofs.OwnPrefixes.{inserted_is_there, inserted_again}
use Rattle.babel_speaker.proofs.tables.announced.Announced.insert_near.Goals as goal

pub returns-then-is_some-clause-ok : goal.returns-then-is_some-clause-ok
returns-then-is_some-clause-ok c =
    let p = c.args.prefix in
    let table = c.self.inside.table in
    let known : is_some (find prefix_cmp p table.entries.items) ≡ true = sym (ap is_some c.find_near.ensures.value) ∙ sym c.is_some.ensures ∙ c.if-is_some.true in
    subst (λ (es : PrefixSet). es ≡ put prefix_cmp p tt es) c.self.view_is (sym (inserted_again p table.entries.items table.sorted known))

pub returns-clause-announced : goal.returns-clause-announced
returns-clause-announced c =
    ap (λ (es : PrefixSet). is_some (find prefix_cmp c.args.prefix es)) c.insert.ensures.entries ∙ inserted_is_there c.args.prefix c.self.inside.table.entries.items
