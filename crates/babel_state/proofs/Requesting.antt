-- Requests for a greater seqno change requests and pending items alone.
use Rattle.std.proofs.Common.{◌≡◌, ℕ, [], ◌∷◌, refl, ◌∙◌, arith}
use Rattle.babel_choice.specs.Routes.{Route, RouteEntries}
use Rattle.babel_state.specs.State.{State}
use Rattle.babel_state.specs.Requesting.{request_for_wanted, request_for_each, seqnos_requested}
use Rattle.babel_state.specs.CurrentSelections.{RequestingKeepsCurrent}
use Rattle.babel_state.specs.Invariants.{AreTables, RequestingKeepsWellFormed}
use Rattle.babel_state.specs.SeenLaws.{RequestingMoves}
use Rattle.babel_state.specs.StepLaws.{kept_of, RequestingKeepsTheRest, RequestingKeepsSettings}
use Rattle.babel_state.proofs.KeptStates.{selectable_kept, current_kept, settings_kept, moves_kept}
use Rattle.babel_state.proofs.Reselecting.{if_kept, asks_kept, update_kept}
use Rattle.babel_state.proofs.TableLaws.{if_tables, asks_tables, for_update_tables}

-- ---- what stays

pub wanted_kept : (now : ℕ) (route : Route) (s : State) → kept_of (request_for_wanted now route s) ≡ kept_of s
wanted_kept now route s =
    if_kept _ _ _ _ (if_kept _ _ _ _ (asks_kept _ _ _ _ _ _ s) (update_kept now route.0.prefix (record { peer = route.0.peer; router = route.1.router }) s)) refl

each_kept : (now : ℕ) (routes : RouteEntries) (s : State) → kept_of (request_for_each now routes s) ≡ kept_of s
each_kept now [] s = refl
each_kept now (r ∷ rs) s = each_kept now rs (request_for_wanted now r s) ∙ wanted_kept now r s

pub requests_kept_rest : RequestingKeepsTheRest
unfolding seqnos_requested
requests_kept_rest now s = each_kept now s.routes.entries s

-- ---- the tables

wanted_tables : (now : ℕ) (route : Route) (s : State) → AreTables s → AreTables (request_for_wanted now route s)
wanted_tables now route s t =
    if_tables _ _ s
    (if_tables _ _ _ (asks_tables _ _ _ _ 64 _ s (omega arith) t) (for_update_tables now route.0.prefix (record { peer = route.0.peer; router = route.1.router }) s t)) t

each_tables : (now : ℕ) (routes : RouteEntries) (s : State) → AreTables s → AreTables (request_for_each now routes s)
each_tables now [] s t = t
each_tables now (r ∷ rs) s t = each_tables now rs (request_for_wanted now r s) (wanted_tables now r s t)

requested_tables : (now : ℕ) (s : State) → AreTables s → AreTables (seqnos_requested now s)
unfolding seqnos_requested
requested_tables now s t = each_tables now s.routes.entries s t

-- ---- what follows

pub requested_well : RequestingKeepsWellFormed
requested_well now s well = record {
  tables = requested_tables now s well.tables;
  selections = selectable_kept s (seqnos_requested now s) (requests_kept_rest now s) well.selections;
}

pub requested_current : RequestingKeepsCurrent
requested_current now s = current_kept s (seqnos_requested now s) (requests_kept_rest now s)

pub requested_settings : RequestingKeepsSettings
requested_settings now s = settings_kept s (seqnos_requested now s) (requests_kept_rest now s)

pub requested_moves : RequestingMoves
requested_moves now s well = moves_kept s (seqnos_requested now s) (requests_kept_rest now s) well (requested_well now s well)
