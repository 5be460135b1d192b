-- The walk over the routes of the prefix gives one exactly where there is one.
use Rattle.std.proofs.Common.{sym, ◌∙◌}
use Rattle.babel_choice.proofs.ChoiceLemmas.{some_route, no_route}
use Rattle.babel_route.proofs.routes.room.has_entry.Goals as goal

pub returns-in-Some : goal.returns-in-Some
returns-in-Some g c =
    sym (some_route c.args.prefix (g.E.Table.entries c.args.entries.now) _ _ (sym c.new_near.ensures ∙ c.in-Some.ensures.steps))

pub returns-in-None : goal.returns-in-None
returns-in-None g c =
    sym (no_route c.args.prefix (g.E.Table.entries c.args.entries.now) (sym c.new_near.ensures ∙ c.in-None.ensures.steps.0))
