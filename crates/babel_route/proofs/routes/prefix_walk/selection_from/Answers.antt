-- The selection at the index is that of the prefix, or the prefix has none.
use Rattle.std.proofs.Common.{sym, ap, ◌∙◌}
use Rattle.std.specs.Ordering.{is_eq}
use Rattle.babel_route.proofs.PrefixWalkLemmas.{selection_here, selection_beyond, selection_past}
use Rattle.babel_choice.proofs.RunLemmas.{drop_past}
use Rattle.babel_route.proofs.routes.prefix_walk.selection_from.Goals.{in_default-via-in-Some+else-is_eq, in_default-via-in_default}
use Rattle.babel_route.proofs.routes.prefix_walk.selection_from.Goals as goal

pub returns-in-Some-clause-found : goal.returns-in-Some-clause-found
returns-in-Some-clause-found g c =
    let table = c.args.selections.now in
    (selection_here c.args.prefix.now (g.S.Table.entries table) c.args.place c.in-Some.selection (g.met.S.Table.ordered table) (sym c.in-Some.ensures) (sym (c.if-is_eq.ensures ∙ ap is_eq c.cmp.ensures))).found

pub returns-in-Some-clause-rest : goal.returns-in-Some-clause-rest
returns-in-Some-clause-rest g c =
    let table = c.args.selections.now in
    (selection_here c.args.prefix.now (g.S.Table.entries table) c.args.place c.in-Some.selection (g.met.S.Table.ordered table) (sym c.in-Some.ensures) (sym (c.if-is_eq.ensures ∙ ap is_eq c.cmp.ensures))).rest

pub returns-in_default-clause-found : goal.returns-in_default-clause-found
returns-in_default-clause-found g c =
    let table = c.args.selections.now in
    let es = g.S.Table.entries table in
    elim c.in_default.branch [
      | in_default-via-in-Some+else-is_eq w ↦
          (selection_beyond c.args.prefix.now es c.args.place w.in-Some.selection (g.met.S.Table.ordered table) (sym w.in-Some.ensures) (sym (w.if-is_eq.ensures ∙ ap is_eq w.cmp.ensures)) c.requires).found
      | in_default-via-in_default w ↦ (selection_past c.args.prefix.now es c.args.place (drop_past es c.args.place (sym w.in_default.ensures))).found
    ]

pub returns-in_default-clause-rest : goal.returns-in_default-clause-rest
returns-in_default-clause-rest g c =
    let table = c.args.selections.now in
    let es = g.S.Table.entries table in
    elim c.in_default.branch [
      | in_default-via-in-Some+else-is_eq w ↦
          (selection_beyond c.args.prefix.now es c.args.place w.in-Some.selection (g.met.S.Table.ordered table) (sym w.in-Some.ensures) (sym (w.if-is_eq.ensures ∙ ap is_eq w.cmp.ensures)) c.requires).rest
      | in_default-via-in_default w ↦ (selection_past c.args.prefix.now es c.args.place (drop_past es c.args.place (sym w.in_default.ensures))).rest
    ]
