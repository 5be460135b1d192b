-- What passes the tests is the same.
use Rattle.std.proofs.Common.{sym, ap, ◌∙◌}
use Rattle.std.specs.Ordering.{is_eq}
use Rattle.babel_value.specs.Orders.{peer_cmp}
use Rattle.babel_value.proofs.OrderLaws.{peer_exact}
use Rattle.babel_value.proofs.Orderings.{equal}
use Rattle.babel_route.proofs.CurrencyLemmas.{same_entry}
use Rattle.babel_route.proofs.routes.current.is_selection_of.Goals as goal

pub returns-then-is_eq : goal.returns-then-is_eq
returns-then-is_eq c = λ alike.
    let one = c.args.selection.now in
    let other = c.args.route.now in
    let tied = sym (ap is_eq c.cmp.ensures) ∙ sym c.if-is_eq.ensures in
    let peer = peer_exact one.peer other.0.peer (equal (peer_cmp one.peer other.0.peer) tied) in
    let entry = same_entry one.entry other.1 (sym c.is_same_entry.ensures ∙ alike) in
    λ i. record { peer = peer i; entry = entry i }
