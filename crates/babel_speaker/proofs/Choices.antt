-- What is reported of a selected route, by its parts.
use Rattle.std.proofs.Common.{◌≡◌, Option, Some, option_map, sym, ap, ◌∙◌}
use Rattle.babel_value.specs.Metrics.{metric_sum}
use Rattle.babel_value.specs.Prefixes.{PrefixValue}
use Rattle.babel_choice.specs.declared.entries.Selection.{Selection}
use Rattle.babel_choice.specs.Choices.{route_metric}
use Rattle.babel_choice.specs.Routes.{key_of}
use Rattle.babel_state.specs.declared.selected.Choice.{Choice}
use Rattle.babel_state.specs.declared.selected.LastChoice.TheVariants.{Now}
use Rattle.babel_state.specs.Calls.{choice_of, reported_selected}
use Rattle.babel_state.specs.State.{State, cost_at, selected_at}

pub chosen : (s : State) (prefix : PrefixValue) (selection : Selection) (choice : Choice) → Some selection ≡ selected_at prefix s →
    selection.peer ≡ choice.peer → selection.entry.router ≡ choice.router → selection.entry.distance.seqno ≡ choice.seqno →
    metric_sum selection.entry.distance.metric (cost_at s choice.peer) ≡ choice.metric →
    option_map choice_of (option_map (reported_selected prefix s) (selected_at prefix s)) ≡ Some choice
chosen s prefix selection choice at peer router seqno metric =
    ap (λ (o : Option Selection). option_map choice_of (option_map (reported_selected prefix s) o)) (sym at)
    ∙ ap Some (λ i. record { peer = peer i; metric = same i; router = router i; seqno = seqno i })
  where
    same : route_metric (cost_at s) (key_of prefix selection.peer, selection.entry) ≡ choice.metric
    same = ap (λ p. metric_sum selection.entry.distance.metric (cost_at s p)) peer ∙ metric

pub named : (s : State) (prefix : PrefixValue) (selection : Selection) (now : Choice) (choice : Option Choice) → Some selection ≡ selected_at prefix s →
    ((p : PrefixValue) → now ≡ choice_of (reported_selected p s selection)) → Now (Some now) ≡ Now choice →
    choice ≡ option_map choice_of (option_map (reported_selected prefix s) (selected_at prefix s))
named s prefix selection now choice at is same =
    let new : Some now ≡ choice = cc in
    sym new ∙ ap Some (is prefix) ∙ ap (λ (o : Option Selection). option_map choice_of (option_map (reported_selected prefix s) o)) at
