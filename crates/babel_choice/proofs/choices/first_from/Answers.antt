-- A prefix that has no route, and one that has one.
use Rattle.std.proofs.Common.{refl, sym, ap, ◌∙◌, filter, drop}
use Rattle.babel_table.specs.Firsts.{first_of}
use Rattle.babel_choice.specs.Choices.{is_candidate, preference, route_metric, routes_of}
use Rattle.babel_choice.proofs.ChoiceLemmas.{measured, unmeasured, first_alone, none_alone}
use Rattle.babel_choice.proofs.RunLemmas.{run_ends, run_alone}
use Rattle.babel_choice.proofs.choices.first_from.Goals as goal

pub returns-in_default-clause-first : goal.returns-in_default-clause-first
returns-in_default-clause-first g c =
    let cost = g.C.Costs.cost_of c.args.inputs.now.costs.now in
    let passes = is_candidate c.args.inputs.now.sources.now cost in
    let es = g.E.Table.entries c.args.inputs.now.entries.now in
    let end = run_ends c.args.prefix.now es c.args.start (g.met.E.Table.ordered c.args.inputs.now.entries.now) (c.in_default.ensures.none refl) c.requires in
    ap (λ routes. first_of (preference cost c.args.before) (filter passes routes)) (sym end.routes)

pub returns-in_default-clause-rest : goal.returns-in_default-clause-rest
returns-in_default-clause-rest g c =
    let es = g.E.Table.entries c.args.inputs.now.entries.now in
    sym (run_ends c.args.prefix.now es c.args.start (g.met.E.Table.ordered c.args.inputs.now.entries.now) (c.in_default.ensures.none refl) c.requires).others

pub returns-in-Some-candidate_metric-clause-first : goal.returns-in-Some-candidate_metric-clause-first
returns-in-Some-candidate_metric-clause-first g c =
    let cost = g.C.Costs.cost_of c.args.inputs.now.costs.now in
    let passes = is_candidate c.args.inputs.now.sources.now cost in
    let es = g.E.Table.entries c.args.inputs.now.entries.now in
    let p = c.args.prefix.now in
    let route = c.in-Some.route in
    let found = c.in-Some.ensures.some in
    let alone = run_alone p es c.args.start route (g.met.E.Table.ordered c.args.inputs.now.entries.now) found.0 found.1 (c.route_at-2.ensures.none (sym c.if-is_some.ensures)) c.requires in
    let here = measured (passes route) (route_metric cost route) c.in-Some-candidate_metric.field-0 (sym c.in-Some-candidate_metric.ensures) in
    found.0 ∙ sym (first_alone (preference cost c.args.before) passes route (routes_of p (drop c.args.start es)) alone.routes here.0)

pub returns-in-Some-candidate_metric-clause-rest : goal.returns-in-Some-candidate_metric-clause-rest
returns-in-Some-candidate_metric-clause-rest g c =
    let es = g.E.Table.entries c.args.inputs.now.entries.now in
    let found = c.in-Some.ensures.some in
    sym (run_alone c.args.prefix.now es c.args.start c.in-Some.route (g.met.E.Table.ordered c.args.inputs.now.entries.now) found.0 found.1 (c.route_at-2.ensures.none (sym c.if-is_some.ensures)) c.requires).others

pub returns-in-None-clause-first : goal.returns-in-None-clause-first
returns-in-None-clause-first g c =
    let cost = g.C.Costs.cost_of c.args.inputs.now.costs.now in
    let passes = is_candidate c.args.inputs.now.sources.now cost in
    let es = g.E.Table.entries c.args.inputs.now.entries.now in
    let p = c.args.prefix.now in
    let route = c.in-Some.route in
    let found = c.in-Some.ensures.some in
    let alone = run_alone p es c.args.start route (g.met.E.Table.ordered c.args.inputs.now.entries.now) found.0 found.1 (c.route_at-2.ensures.none (sym c.if-is_some.ensures)) c.requires in
    let other = unmeasured (passes route) (route_metric cost route) (sym c.in-None.ensures) in
    sym (none_alone (preference cost c.args.before) passes route (routes_of p (drop c.args.start es)) alone.routes other)

pub returns-in-None-clause-rest : goal.returns-in-None-clause-rest
returns-in-None-clause-rest g c =
    let es = g.E.Table.entries c.args.inputs.now.entries.now in
    let found = c.in-Some.ensures.some in
    sym (run_alone c.args.prefix.now es c.args.start c.in-Some.route (g.met.E.Table.ordered c.args.inputs.now.entries.now) found.0 found.1 (c.route_at-2.ensures.none (sym c.if-is_some.ensures)) c.requires).others
