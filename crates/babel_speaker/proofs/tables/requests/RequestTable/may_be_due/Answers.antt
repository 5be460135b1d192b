-- Before the least moment no wait is over.
use Rattle.std.proofs.Common.{◌≡◌, false, subst}
use Rattle.std.specs.List.{list_any}
use Rattle.std.proofs.lemmas.Bool.{leb-false}
use Rattle.babel_state.specs.Ticks.{is_due_request}
use Rattle.babel_speaker.proofs.RequestDues.{none_over}
use Rattle.babel_speaker.proofs.tables.requests.RequestTable.may_be_due.Goals as goal

pub returns : goal.returns
returns c = λ early.
    let inside = c.self.inside in
    subst (λ es. list_any (λ e. is_due_request c.args.now e.1) es ≡ false) c.self.view_is
    (none_over c.args.now inside.due inside.table.entries.items (leb-false inside.due c.args.now early) c.self.invariant.1)
