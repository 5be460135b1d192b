-- The request is passed, or there is none at the index.
use Rattle.std.proofs.Common.{sym, ◌∙◌}
use Rattle.babel_speaker.proofs.Earliest.{one_passed, none_passed}
use Rattle.babel_speaker.proofs.ticks.deadlines.earlier_of_request.Goals as goal

pub returns-in-Some : goal.returns-in-Some
returns-in-Some c =
    one_passed (λ e. e.1.due) c.args.requests.now c.args.index (c.in-Some.field-0-0, c.in-Some.request) c.args.due c.min.result
    (sym c.at.ensures ∙ c.in-Some.is) c.min.ensures

pub returns-in-None : goal.returns-in-None
returns-in-None c = none_passed (λ e. e.1.due) c.args.requests.now c.args.index c.args.due (sym c.at.ensures ∙ c.in-None.is)
