use Rattle.std.proofs.Common.{◌≡◌, Some, None, refl, sym, ap, ◌∙◌, subst}
use Rattle.babel_state.specs.Addresses.{transport_at}
use Rattle.babel_speaker.specs.Sending.{MeansFrom, draft_at}
use Rattle.babel_net.specs.Networks.{SentOctets}
use Rattle.babel_net.specs.Steps.{IsSent}
use Rattle.babel_net.proofs.SentOctetsLaws.{transport_kept, sent_by}
use Rattle.babel_net.proofs.calls.send.Goals as goal

pub unreachable-requires : goal.unreachable-requires
unreachable-requires c =
    let s = c.args.speaker.now in
    let target = c.in_ok-target.target in
    let goes : (draft_at c.args.now s).target ≡ Some target = sym c.next_datagram.ensures.target ∙ c.in_ok-target.was in
    let none : transport_at target.iface s ≡ None =
    sym (transport_kept c.datagrams_send.ensures.sent c.args.now s target target.iface c.requires goes)
    ∙ ap (transport_at target.iface) (sym c.next_datagram.ensures.state) ∙ sym c.transport.ensures ∙ c.in-None.is in
    subst (λ o. MeansFrom o c.next_datagram.new.out.items (draft_at c.args.now s).messages) none
    c.in_ok-target.ensures.octets

pub returns-clause-sent : goal.returns-clause-sent
returns-clause-sent c =
    let s = c.args.speaker.now in
    let target = c.in_ok-target.target in
    let goes : (draft_at c.args.now s).target ≡ Some target = sym c.next_datagram.ensures.target ∙ c.in_ok-target.was in
    let own : transport_at target.iface s ≡ Some c.in-Some.source =
    sym (transport_kept c.datagrams_send.ensures.sent c.args.now s target target.iface c.requires goes)
    ∙ ap (transport_at target.iface) (sym c.next_datagram.ensures.state) ∙ sym c.transport.ensures ∙ c.in-Some.is in
    let means = c.in_ok-target.ensures.octets in
    let d : SentOctets = record { node = c.args.node; source = c.in-Some.source; octets = c.next_datagram.new.out.items } in
    subst (λ t. IsSent c.args.node s (draft_at c.args.now s) t (Some d)) (sym goes)
    (sent_by c.args.node s (draft_at c.args.now s) target c.in-Some.source c.next_datagram.new.out.items d own means c.in_ok-target.ensures.built refl)
