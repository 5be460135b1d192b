-- The choice is the first of the candidates, and each of those is a route of the table.
use Rattle.std.proofs.Common.{refl}
use Rattle.babel_table.specs.Firsts.{first_of}
use Rattle.babel_choice.specs.Choices.{candidates, preference, peer_before}
use Rattle.babel_table.proofs.FirstLemmas.{first_is_first}
use Rattle.babel_route.proofs.CurrentLemmas.{preference_total, chosen_is_candidate}
use Rattle.babel_route.proofs.laws.choices_are_first.Goals as goal

pub returns-clause-first : goal.returns-clause-first
returns-clause-first c = λ sources cost prefix local before es.
    let order = preference cost (peer_before before) in
    let routes = candidates sources cost prefix local es in
    (first_of order routes, refl, first_is_first order (preference_total cost (peer_before before)) routes)

pub returns-clause-candidate : goal.returns-clause-candidate
returns-clause-candidate c = λ sources cost prefix local before es s sorted chosen.
    chosen_is_candidate sources cost prefix local before es s sorted chosen
