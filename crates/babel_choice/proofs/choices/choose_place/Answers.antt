-- All routes of the prefix come from the index on, and the speaker's own prefix has no candidate.
use Rattle.std.proofs.Common.{◌∙◌, sym, ap, filter}
use Rattle.babel_table.specs.Firsts.{first_of}
use Rattle.babel_choice.specs.Choices.{candidates, is_candidate, preference}
use Rattle.babel_choice.proofs.RunLemmas.{all_routes_from}
use Rattle.babel_choice.proofs.choices.choose_place.Goals as goal

pub returns-then-is_own : goal.returns-then-is_own
returns-then-is_own g c =
    let cost = g.C.Costs.cost_of c.args.inputs.now.costs.now in
    let es = g.E.Table.entries c.args.inputs.now.entries.now in
    ap (λ local. first_of (preference cost c.args.before) (candidates c.args.inputs.now.sources.now cost c.args.prefix.now local es)) (sym c.if-is_own.true ∙ c.is_own.ensures)

pub returns : goal.returns
returns g c =
    let cost = g.C.Costs.cost_of c.args.inputs.now.costs.now in
    let es = g.E.Table.entries c.args.inputs.now.entries.now in
    let passes = is_candidate c.args.inputs.now.sources.now cost in
    c.first_from-first.ensures.first
    ∙ ap (λ routes. first_of (preference cost c.args.before) (filter passes routes)) (all_routes_from c.args.prefix.now es c.places_below_near-place.result c.places_below_near-place.ensures.below)
    ∙ ap (λ local. first_of (preference cost c.args.before) (candidates c.args.inputs.now.sources.now cost c.args.prefix.now local es)) (sym c.if-is_own.false ∙ c.is_own.ensures)
