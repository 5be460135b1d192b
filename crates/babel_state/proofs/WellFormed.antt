-- Each step keeps a state well formed.
use Rattle.babel_state.specs.CurrentSelections.{MessagesKeepCurrent, AnnouncingKeepsCurrent, WithdrawingKeepsCurrent, RaisingKeepsCurrent}
use Rattle.babel_state.specs.Invariants.{CostsKeepCurrent, CostsKeepRoutes, MessagesKeepWellFormed, TicksKeepWellFormed, CostsKeepWellFormed, AnnouncingKeepsWellFormed, WithdrawingKeepsWellFormed, RaisingKeepsWellFormed}
use Rattle.babel_state.specs.Calls.{cost_set}
use Rattle.babel_state.proofs.TableLaws.{message_tables, raised_tables}
use Rattle.babel_state.proofs.TickTables.{tick_tables, cost_tables, announced_also_tables, withdrawn_tables}
use Rattle.babel_state.proofs.SelectableSteps.{message_good, announced_good, withdrawn_good}
use Rattle.babel_state.proofs.SelectableTicks.{cost_good, same_costs, same_selections, tick_selectable}
use Rattle.babel_state.proofs.KeptRoutes.{parts_routes}

pub message_well : MessagesKeepWellFormed
message_well now peer message s encodable well = record {
  tables = message_tables now peer message s encodable well.tables;
  selections = (message_good now peer message s well.tables.routes.entries_in_order).selectable well.selections;
}

pub tick_well : TicksKeepWellFormed
tick_well now s well = record { tables = tick_tables now s well.tables; selections = tick_selectable now s well.tables }

pub cost_well : CostsKeepWellFormed
cost_well iface cost s free well = record {
  tables = cost_tables iface cost s free well.tables;
  selections = (cost_good iface cost s free well.tables).selectable well.selections;
}

pub announced_well : AnnouncingKeepsWellFormed
announced_well prefix s room well = record {
  tables = announced_also_tables prefix s room well.tables;
  selections = (announced_good prefix s well.tables.routes.entries_in_order).selectable well.selections;
}

pub withdrawn_well : WithdrawingKeepsWellFormed
withdrawn_well prefix s well = record {
  tables = withdrawn_tables prefix s well.tables;
  selections = (withdrawn_good prefix s well.tables.routes.entries_in_order).selectable well.selections;
}

pub raised_well : RaisingKeepsWellFormed
raised_well s well = record { tables = raised_tables s well.tables; selections = well.selections }

-- ---- current selections

pub message_current : MessagesKeepCurrent
message_current now peer message s sorted = (message_good now peer message s sorted).current

pub announced_current : AnnouncingKeepsCurrent
announced_current prefix s sorted = (announced_good prefix s sorted).current

pub withdrawn_current : WithdrawingKeepsCurrent
withdrawn_current prefix s sorted = (withdrawn_good prefix s sorted).current

pub raised_current : RaisingKeepsCurrent
raised_current s prefix current = current

pub cost_current : CostsKeepCurrent
cost_current iface cost s free well = (cost_good iface cost s free well.tables).current

pub cost_routes : CostsKeepRoutes
cost_routes iface cost s free well =
    parts_routes s (cost_set iface cost s) (same_selections iface cost s) (same_costs iface cost s free well.tables)
