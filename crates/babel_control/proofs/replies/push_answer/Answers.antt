-- The counts of neighbours and routes are those of the changes.
use Rattle.std.proofs.Common.{◌≡◌, ◌++◌, length, OnOk, sym, subst}
use Rattle.std.specs.String.{string_bytes}
use Rattle.babel_control.specs.declared.clients.Access.TheVariants.{All}
use Rattle.babel_control.specs.Replies.{counts_reply, IsReply}
use Rattle.babel_control.proofs.replies.push_answer.Goals as goal

pub returns-in-Counts : goal.returns-in-Counts
returns-in-Counts g c = λ empty.
    let counts = c.args.view.now.counts in
    let text = string_bytes c.push_counts.new.out in
    let from_empty = subst (λ t. OnOk c.push_counts.result (text ≡ t ++ counts_reply counts c.neighbour_count-neighbours.result c.route_count.result)) empty c.push_counts.ensures in
    let of_routes = subst (λ n. OnOk c.push_counts.result (text ≡ counts_reply counts c.neighbour_count-neighbours.result n)) c.route_count.ensures from_empty in
    let of_both = subst (λ n. OnOk c.push_counts.result (text ≡ counts_reply counts n (length c.args.changes.now.routes))) c.neighbour_count-neighbours.ensures of_routes in
    subst (λ k. OnOk c.push_counts.result (IsReply All k c.args.view.now c.args.changes.now text)) (sym c.in-Counts.is) of_both
