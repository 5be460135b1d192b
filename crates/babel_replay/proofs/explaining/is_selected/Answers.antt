use Rattle.std.proofs.Common.{Option, false, sym, ap, ◌∙◌}
use Rattle.std.specs.Option.{option_map_or}
use Rattle.babel_state.specs.declared.selected.Selected.{Selected}
use Rattle.babel_state.specs.Sameness.{is_same_peer}
use Rattle.babel_replay.proofs.Comparing.{same_peer}
use Rattle.babel_replay.proofs.explaining.is_selected.Goals as goal

pub returns-in-Some : goal.returns-in-Some
returns-in-Some c =
    c.eq.ensures
    ∙ same_peer c.in-Some.route.peer c.args.peer.now
    ∙ ap (λ (m : Option Selected). option_map_or (λ (r : Selected). is_same_peer r.peer c.args.peer.now) m false) (sym c.in-Some.is ∙ c.selected.ensures)
