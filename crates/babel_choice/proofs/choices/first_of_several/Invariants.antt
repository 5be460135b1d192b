-- The first of what was seen and what is to come is that of all, and it has its metric.
use Rattle.std.proofs.Common.{◌≡◌, true, filter, IfSome, option_map, option_and_then, slice_get, drop}
use Rattle.babel_table.specs.Firsts.{first_from, first_of}
use Rattle.babel_choice.specs.Choices.{others_of, routes_of, is_candidate, preference}
use Rattle.babel_choice.proofs.ChoiceLemmas.{IsMeasured}
use Rattle.babel_choice.proofs.RunLemmas.{are_not_before}
use Rattle.babel_choice.proofs.choices.first_of_several.Given as goal

abbrev pub invariant-loop-place : goal.invariant-loop-place
invariant-loop-place g l =
    let cost = g.C.Costs.cost_of l.inputs.costs.now in
    let passes = is_candidate l.inputs.sources.now cost in
    let es = g.E.Table.entries l.entries in
    record {
      from : are_not_before l.prefix (drop l.place es) ≡ true;
      first : first_from (preference cost l.before) (option_and_then (slice_get es) (option_map (λ found. found.place) l.first)) (filter passes (routes_of l.prefix (drop l.place es))) ≡ first_of (preference cost l.before) (filter passes (routes_of l.prefix (drop l.start es)));
      measured : IfSome l.first (IsMeasured cost es);
      rest : others_of l.prefix (drop l.place es) ≡ others_of l.prefix (drop l.start es);
    }
