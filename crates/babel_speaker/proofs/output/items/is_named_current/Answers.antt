-- The costs are those of the state.
use Rattle.std.proofs.Common.{sym, ap, ◌∙◌}
use Rattle.babel_choice.specs.Origins.{is_own}
use Rattle.babel_route.specs.Currency.{is_current}
use Rattle.babel_speaker.specs.Costs.{link_cost}
use Rattle.babel_state.specs.State.{State, cost_at}
use Rattle.babel_speaker.specs.SentMessages.{is_named_current}
use Rattle.babel_speaker.proofs.output.items.is_named_current.Goals as goal

pub returns-in-Update : goal.returns-in-Update
returns-in-Update c =
    let inside = c.core.inside in
    let links = c.new-costs.ensures in
    let prefix = c.in-Update.prefix in
    let local = is_own c.origin-origin.result in
    let now = c.args.core.now in
    c.is_current_near.ensures
    ∙ (λ i. is_current inside.sources (link_cost (links.interfaces i) (links.neighbours i)) prefix local inside.routes)
    ∙ ap (λ (s : State). is_current s.sources (cost_at s) prefix local s.routes) c.core.view_is
    ∙ ap (λ local. is_current now.sources (cost_at now) prefix local now.routes) c.origin-origin.ensures
    ∙ ap (λ m. is_named_current m now) (sym c.in-Update.is)
