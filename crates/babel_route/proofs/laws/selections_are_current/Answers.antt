-- A reselection writes at its prefix; the selection that it leaves is current, and a current one stays so.
use Rattle.babel_value.specs.Orders.{prefix_cmp}
use Rattle.babel_value.proofs.OrderLaws.{prefix_total, prefix_exact}
use Rattle.babel_route.specs.Selections.{choice_at}
use Rattle.babel_table.proofs.LookupLemmas.{find_with_value}
use Rattle.babel_route.proofs.CurrentLemmas.{all_current, all_settled}
use Rattle.babel_route.proofs.laws.selections_are_current.Goals as goal

pub returns-clause-one : goal.returns-clause-one
returns-clause-one c = λ sources cost prefix other local routes.
    find_with_value prefix_cmp prefix_total prefix_exact other prefix (choice_at sources cost prefix local routes) routes.selections

pub returns-clause-all : goal.returns-clause-all
returns-clause-all c = λ sources cost is_local prefixes routes prefix sorted within.
    all_current sources cost is_local prefixes routes prefix sorted within

pub returns-clause-settled : goal.returns-clause-settled
returns-clause-settled c = λ sources cost is_local prefixes routes sorted current.
    all_settled sources cost is_local prefixes routes sorted current
