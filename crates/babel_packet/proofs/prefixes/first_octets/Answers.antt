-- The octets are put together as one number.
use Rattle.std.proofs.Common.{◌≡◌, ◌≤◌, ◌<◌, ◌+◌, ◌-◌, length, rules, arith}
use Rattle.babel_packet.specs.Prefixes.{octets_of, prefix_octets}
use Rattle.babel_packet.proofs.Words.{number_octets}
use Rattle.babel_packet.proofs.prefixes.first_octets.Goals as goal

pub returns : goal.returns
unfolding prefix_octets
returns c =
    let full = c.octets_of.result in
    let value : full ≡ octets_of c.args.bits = c.octets_of.ensures.value in
    let short : octets_of c.args.bits ≤ 8 = c.requires.short in
    let some : c.args.omitted < octets_of c.args.bits = c.requires.written in
    let there : c.args.at + (octets_of c.args.bits - c.args.omitted) ≤ length c.args.payload.now = c.requires.there in
    let later : 8 ≤ c.args.at = c.requires.at.0 in
    number_octets c.args.default c.args.payload.now c.copy_from_slice.new.self c.to_be_bytes.result c.args.omitted c.args.bits c.args.at full c.from_be_bytes.result c.front.result
    (search rules) (search rules) (search rules) value (omega arith) (omega arith) later (omega arith) c.copy_from_slice.ensures.after c.from_be_bytes.ensures c.front.ensures c.to_be_bytes.ensures
