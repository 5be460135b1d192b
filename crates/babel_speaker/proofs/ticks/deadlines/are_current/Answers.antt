-- The costs are those of the state.
use Rattle.std.proofs.Common.{sym, ap, ◌∙◌}
use Rattle.babel_value.specs.Prefixes.{PrefixValue}
use Rattle.babel_speaker.specs.Costs.{link_cost}
use Rattle.babel_speaker.specs.StalePrefixes.{is_stale}
use Rattle.babel_state.specs.State.{State, cost_at}
use Rattle.babel_speaker.proofs.CurrentWalks.{all_current, none_stale}
use Rattle.babel_speaker.proofs.ticks.deadlines.are_current.Goals as goal

pub returns : goal.returns
returns c =
    let inside = c.core.inside in
    let links = c.new-costs.ensures in
    let now = c.args.core.now in
    let same = λ (p : PrefixValue). (λ i. is_stale inside.sources (link_cost (links.interfaces i) (links.neighbours i)) inside.announced inside.routes p)
    ∙ ap (λ (s : State). is_stale s.sources (cost_at s) s.announced s.routes p) c.core.view_is in (
      λ fresh. all_current now (λ p. sym (same p) ∙ c.none_is_stale.ensures.0 fresh p),
      λ current. c.none_is_stale.ensures.1 (λ p. same p ∙ none_stale now current p),
    )
