use Rattle.std.proofs.Common.{ℕ, List, sym, subst}
use Rattle.babel_value.specs.declared.addresses.Addr.{Addr}
use Rattle.babel_packet.specs.Meaning.{meaning}
use Rattle.babel_state.specs.Seen.{UpdateValue}
use Rattle.babel_mixed.specs.Updates.{HaveWords}
use Rattle.babel_mixed.specs.Mixed.{IsMixed, IsWhole}
use Rattle.babel_net.specs.Networks.{updates_read}
use Rattle.babel_mixed.proofs.HeardNetworks.{mixed, hear_kept, hear_owners}
use Rattle.babel_mixed.proofs.mixed.MixedNetwork.hear.Goals as goal

pub returns-in_err-test-clause-no_loop : goal.returns-in_err-test-clause-no_loop
returns-in_err-test-clause-no_loop c = (c.mixed_networks_have_no_loop.ensures c.args.self.now (subst IsMixed c.self.view_is c.self.invariant.0)).0

pub returns-in_err-test-clause-no_forwarding_loop : goal.returns-in_err-test-clause-no_forwarding_loop
returns-in_err-test-clause-no_forwarding_loop c = (c.mixed_networks_have_no_loop.ensures c.args.self.now (subst IsMixed c.self.view_is c.self.invariant.0)).1

pub returns-in_default-clause-no_loop : goal.returns-in_default-clause-no_loop
returns-in_default-clause-no_loop c = (c.mixed_networks_have_no_loop.ensures c.args.self.now (subst IsMixed c.self.view_is c.self.invariant.0)).0

pub returns-in_default-clause-no_forwarding_loop : goal.returns-in_default-clause-no_forwarding_loop
returns-in_default-clause-no_forwarding_loop c = (c.mixed_networks_have_no_loop.ensures c.args.self.now (subst IsMixed c.self.view_is c.self.invariant.0)).1

pub returns-then-is_err-clause-no_loop : goal.returns-then-is_err-clause-no_loop
returns-then-is_err-clause-no_loop c =
    let after : IsMixed (mixed c.self.inside.nodes c.reserve.new.self.items) = subst (λ (us : List UpdateValue). IsMixed (mixed c.self.inside.nodes us)) (sym c.reserve.ensures.items) c.self.invariant.0 in
    (c.mixed_networks_have_no_loop.ensures (mixed c.self.inside.nodes c.reserve.new.self.items) after).0

pub returns-then-is_err-clause-no_forwarding_loop : goal.returns-then-is_err-clause-no_forwarding_loop
returns-then-is_err-clause-no_forwarding_loop c =
    let after : IsMixed (mixed c.self.inside.nodes c.reserve.new.self.items) = subst (λ (us : List UpdateValue). IsMixed (mixed c.self.inside.nodes us)) (sym c.reserve.ensures.items) c.self.invariant.0 in
    (c.mixed_networks_have_no_loop.ensures (mixed c.self.inside.nodes c.reserve.new.self.items) after).1

pub invariant_of-self-2 : goal.invariant_of-self-2
invariant_of-self-2 c =
    let octets : List ℕ = c.heard.inside.octets.now in
    let source : Addr = c.heard.inside.source in
    let seqnos : HaveWords (updates_read (meaning octets source)) = subst HaveWords c.in-Ok.ensures.ok c.in-Ok.ensures.seqnos in
    let whole : IsWhole c.args.heard.now = subst IsWhole c.heard.view_is (record { octets = c.octets_are_small.ensures; source = c.addr_is_whole.ensures; seqnos = seqnos }) in
    let after : IsMixed (mixed c.hear.new.nodes c.hear.new.recorded.items) = hear_kept c.mixed_go_on.ensures.hearing c.hear.result c.args.heard.now c.self.inside.nodes c.hear.new.nodes c.self.inside.heard.items c.reserve.new.self.items c.hear.new.recorded.items whole c.self.invariant.0 c.reserve.ensures.items c.in_ok-test.ensures.ok c.hear.ensures.ok c.hear.ensures.err in
    (after, hear_owners c.hear.result c.args.heard.now c.self.inside.nodes c.hear.new.nodes c.reserve.new.self.items c.hear.new.recorded.items c.self.inside.owners.nodes c.self.invariant.1 c.hear.ensures.ok c.hear.ensures.err)

pub returns-clause-no_loop : goal.returns-clause-no_loop
returns-clause-no_loop c =
    let octets : List ℕ = c.heard.inside.octets.now in
    let source : Addr = c.heard.inside.source in
    let seqnos : HaveWords (updates_read (meaning octets source)) = subst HaveWords c.in-Ok.ensures.ok c.in-Ok.ensures.seqnos in
    let whole : IsWhole c.args.heard.now = subst IsWhole c.heard.view_is (record { octets = c.octets_are_small.ensures; source = c.addr_is_whole.ensures; seqnos = seqnos }) in
    let after : IsMixed (mixed c.hear.new.nodes c.hear.new.recorded.items) = hear_kept c.mixed_go_on.ensures.hearing c.hear.result c.args.heard.now c.self.inside.nodes c.hear.new.nodes c.self.inside.heard.items c.reserve.new.self.items c.hear.new.recorded.items whole c.self.invariant.0 c.reserve.ensures.items c.in_ok-test.ensures.ok c.hear.ensures.ok c.hear.ensures.err in
    (c.mixed_networks_have_no_loop.ensures (mixed c.hear.new.nodes c.hear.new.recorded.items) after).0

pub returns-clause-no_forwarding_loop : goal.returns-clause-no_forwarding_loop
returns-clause-no_forwarding_loop c =
    let octets : List ℕ = c.heard.inside.octets.now in
    let source : Addr = c.heard.inside.source in
    let seqnos : HaveWords (updates_read (meaning octets source)) = subst HaveWords c.in-Ok.ensures.ok c.in-Ok.ensures.seqnos in
    let whole : IsWhole c.args.heard.now = subst IsWhole c.heard.view_is (record { octets = c.octets_are_small.ensures; source = c.addr_is_whole.ensures; seqnos = seqnos }) in
    let after : IsMixed (mixed c.hear.new.nodes c.hear.new.recorded.items) = hear_kept c.mixed_go_on.ensures.hearing c.hear.result c.args.heard.now c.self.inside.nodes c.hear.new.nodes c.self.inside.heard.items c.reserve.new.self.items c.hear.new.recorded.items whole c.self.invariant.0 c.reserve.ensures.items c.in_ok-test.ensures.ok c.hear.ensures.ok c.hear.ensures.err in
    (c.mixed_networks_have_no_loop.ensures (mixed c.hear.new.nodes c.hear.new.recorded.items) after).1
