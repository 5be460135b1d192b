-- What is chosen is the route at the index, and one of the prefix.
use Rattle.std.proofs.Common.{◌≡◌, ◌∙◌, ap, subst, IsSome, option_map}
use Rattle.babel_table.specs.Firsts.{first_of}
use Rattle.babel_choice.specs.Choices.{candidates, preference, selection_of}
use Rattle.babel_choice.specs.Origins.{is_own}
use Rattle.babel_choice.proofs.ChoiceLemmas.{candidate_is_known}
use Rattle.babel_choice.proofs.choices.choose.Goals as goal

pub returns : goal.returns
returns g c =
    let sources = c.args.inputs.now.sources.now in
    let cost = g.C.Costs.cost_of c.args.inputs.now.costs.now in
    let es = g.E.Table.entries c.args.inputs.now.entries.now in
    let p = c.args.prefix.now in
    let local = is_own c.args.origin in
    let order = preference cost c.peer_of.result in
    let chosen : c.selection_at.result ≡ option_map selection_of (first_of order (candidates sources cost p local es)) =
    c.selection_at.ensures ∙ ap (option_map selection_of) c.choose_place-first.ensures in
    record {
      choice = chosen ∙ ap (λ before. option_map selection_of (first_of (preference cost before) (candidates sources cost p local es))) c.peer_of.ensures;
      known = λ some. candidate_is_known sources cost order p local es (subst IsSome chosen some);
    }
