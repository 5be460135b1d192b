-- The prefix at the place is the next one.
use Rattle.std.proofs.Common.{sym, ap, ◌∙◌, length, rules}
use Rattle.babel_state.specs.State.{prefixes_in}
use Rattle.babel_speaker.proofs.tables.prefixes.PrefixesIterator.next.Goals as goal
use Rattle.babel_choice.proofs.RunLemmas.{drop_at}

pub returns-clause-steps : goal.returns-clause-steps
returns-clause-steps c =
    let walk = c.self.inside in
    sym c.self.view_is ∙ ap prefixes_in (drop_at walk.table.now.entries.items walk.place c.in_ok-entry.entry (sym c.in_ok-entry.ensures))

pub returns-clause-goes : goal.returns-clause-goes
returns-clause-goes c =
    let shorter = ap length (returns-clause-steps c) in search rules
