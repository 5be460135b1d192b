-- One candidate more, or one route more that isn't a candidate.
use Rattle.std.proofs.Common.{◌+◌, refl, sym, ap, ◌∙◌, filter, option_map, option_and_then, slice_get, drop}
use Rattle.babel_choice.specs.Choices.{is_candidate, preference, routes_of, route_metric}
use Rattle.babel_choice.specs.declared.choices.Candidate.{Candidate}
use Rattle.babel_table.specs.Firsts.{first_from}
use Rattle.babel_choice.proofs.ChoiceLemmas.{found_step, places_within}
use Rattle.babel_choice.proofs.RunLemmas.{run_step, run_end}
use Rattle.babel_choice.proofs.choices.first_of_several.Goals as goal

pub first_with-first-requires-clause-found : goal.first_with-first-requires-clause-found
first_with-first-requires-clause-found g c = places_within (g.C.Costs.cost_of c.args.inputs.now.costs.now) (g.E.Table.entries c.args.inputs.now.entries.now) c.loop-place.first c.loop-place.invariant.measured

pub loop-place-preserved : goal.loop-place-preserved
loop-place-preserved g c =
    let cost = g.C.Costs.cost_of c.args.inputs.now.costs.now in
    let before = c.args.before in
    let passes = is_candidate c.args.inputs.now.sources.now cost in
    let kept = c.loop-place.invariant in
    let route = c.in-Some.route in
    let es = g.E.Table.entries c.args.inputs.now.entries.now in
    let p = c.args.prefix.now in
    let rest = routes_of p (drop (c.loop-place.place + 1) es) in
    let step = run_step p es c.loop-place.place route (sym c.in-Some.ensures) (sym c.if-not-is_of.ensures) kept.from in
    let new : Candidate = record { metric = route_metric cost route; place = c.loop-place.place } in
    let more = found_step cost before passes es c.loop-place.first c.first_with-first.result new route rest kept.measured (sym c.in-Some.ensures) refl c.first_with-first.ensures in
    record {
      from = step.from;
      first = more.0 ∙ ap (λ routes. first_from (preference cost before) (option_and_then (slice_get es) (option_map (λ f. f.place) c.loop-place.first)) (filter passes routes)) (sym step.routes) ∙ kept.first;
      measured = more.1;
      rest = sym step.others ∙ kept.rest;
    }

pub returns-then-not-is_of-clause-first : goal.returns-then-not-is_of-clause-first
returns-then-not-is_of-clause-first g c =
    let cost = g.C.Costs.cost_of c.args.inputs.now.costs.now in
    let passes = is_candidate c.args.inputs.now.sources.now cost in
    let es = g.E.Table.entries c.args.inputs.now.entries.now in
    let kept = c.loop-place.invariant in
    let end = run_end c.args.prefix.now es c.loop-place.place c.in-Some.route (g.met.E.Table.ordered c.args.inputs.now.entries.now) (sym c.in-Some.ensures) (sym c.if-not-is_of.ensures) kept.from in
    ap (option_and_then (slice_get es)) c.place_of-then-not-is_of.ensures
    ∙ ap (λ routes. first_from (preference cost c.args.before) (option_and_then (slice_get es) (option_map (λ f. f.place) c.loop-place.first)) (filter passes routes)) (sym end.routes)
    ∙ kept.first

pub returns-then-not-is_of-clause-rest : goal.returns-then-not-is_of-clause-rest
returns-then-not-is_of-clause-rest g c =
    let kept = c.loop-place.invariant in
    let end = run_end c.args.prefix.now (g.E.Table.entries c.args.inputs.now.entries.now) c.loop-place.place c.in-Some.route (g.met.E.Table.ordered c.args.inputs.now.entries.now) (sym c.in-Some.ensures) (sym c.if-not-is_of.ensures) kept.from in
    sym end.others ∙ kept.rest
