-- A list is determined by its length and its elements.
use Rattle.std.proofs.Common.{◌≡◌, ◌+◌, ◌-◌, min, length, take, drop, arith, length-drop}
use Rattle.std.proofs.lemmas.List.{length-take-le}
use Rattle.babel_packet.specs.Prefixes.{octets_of}
use Rattle.babel_packet.proofs.Spreading.{spread_octets}
use Rattle.babel_packet.proofs.prefixes.spread.Goals as goal

pub returns-clause-value : goal.returns-clause-value
returns-clause-value g c =
    let kept = c.min-kept.result in let full = c.octets_of-full.result in let at = c.args.at in let payload = c.args.payload.now in
    let n = at + (full - kept) - at in
    let value : full ≡ octets_of c.args.bits = c.octets_of-full.ensures.value in
    let least : kept ≡ min c.args.omitted full = c.min-kept.ensures in
    let long : length (take n (drop at payload)) ≡ n = length-take-le n (drop at payload) (omega (arith, length-drop at payload)) in
    spread_octets c.args.default payload c.put.new.octets c.args.omitted c.args.bits at kept n (kept + length (take n (drop at payload))) g.row.N
    (omega arith) (omega arith) (omega arith) c.put.ensures.default (omega arith) (omega arith) c.put.ensures.octets
