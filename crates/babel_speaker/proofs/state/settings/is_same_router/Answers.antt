-- What ties is the same.
use Rattle.std.proofs.Common.{sym, ap, ◌∙◌}
use Rattle.std.specs.Ordering.{is_eq}
use Rattle.babel_value.specs.Orders.{octets_cmp}
use Rattle.babel_value.proofs.OrderLaws.{octets_exact}
use Rattle.babel_value.proofs.Orderings.{equal}
use Rattle.babel_speaker.proofs.state.settings.is_same_router.Goals as goal

pub returns : goal.returns
returns c = λ same.
    let one = c.args.one.now in
    let other = c.args.other.now in
    octets_exact one other (equal (octets_cmp one other) (sym (c.is_eq.ensures ∙ ap is_eq c.cmp.ensures) ∙ same))
