-- Nothing is left and there is no fault: the places that were read are those of looking back.
use Rattle.std.proofs.Common.{◌≡◌, [], None, Ok, ap, sym, ◌∙◌, append-nil}
use Rattle.babel_tlv.specs.Place.{fault_reached}
use Rattle.babel_tlv.specs.Split.{places_of, fault_of}
use Rattle.babel_packet.proofs.LookingBack.{looking_back}
use Rattle.babel_packet.proofs.decoding.read_body.Goals as goal

pub returns-in-None-clause-ok : goal.returns-in-None-clause-ok
returns-in-None-clause-ok c =
    let last = c.in_default.ensures.steps in
    let placed_of = rw last.gives.0 at c.loop-tlv.invariant.placed_of in
    let ended : fault_reached c.next.new.self ≡ None = sym c.in-None.ensures.value in
    let reached : c.next.new.self.fault ≡ None = rw last.gives.1 at ended in
    let whole : fault_of c.args.body.now ≡ None = sym c.loop-tlv.invariant.fault ∙ sym last.fault ∙ reached in
    rw whole (ap Ok (sym (looking_back c.args.source [] (places_of c.args.body.now)) ∙ sym placed_of ∙ append-nil c.loop-tlv.placed.items))
