-- What is cleared is clear, and the first eight octets have all of a short prefix.
use Rattle.std.proofs.Common.{◌≡◌, rules, arith, map}
use Rattle.std.specs.List.{range_with_len}
use Rattle.babel_value.proofs.PrefixLaws.{cleared-cleared}
use Rattle.babel_value.specs.Prefixes.{cleared}
use Rattle.babel_packet.specs.Prefixes.{prefix_octet, prefix_octets}
use Rattle.babel_packet.proofs.Words.{resized_octets}
use Rattle.babel_packet.proofs.prefixes.prefix_octets.Goals as goal

pub returns-clause-value : goal.returns-clause-value
unfolding prefix_octets
returns-clause-value g c =
    resized_octets c.args.default c.resized.result c.resized-2.result c.first_octets.result c.args.payload.now c.args.omitted c.args.bits c.args.at g.row.N
    (omega arith) (search rules) c.resized.ensures c.first_octets.ensures c.resized-2.ensures

pub returns-clause-clear : goal.returns-clause-clear
unfolding prefix_octets
returns-clause-clear g c =
    let value : c.resized-2.result ≡ cleared c.args.bits (map (prefix_octet c.args.default c.args.omitted c.args.bits c.args.at c.args.payload.now) (range_with_len 0 g.row.N)) = returns-clause-value g c in
    rw value (cleared-cleared c.args.bits (map (prefix_octet c.args.default c.args.omitted c.args.bits c.args.at c.args.payload.now) (range_with_len 0 g.row.N)))

pub returns-then-at-lt-WORD_LEN-clause-clear : goal.returns-then-at-lt-WORD_LEN-clause-clear
unfolding prefix_octets
returns-then-at-lt-WORD_LEN-clause-clear g c =
    let value : c.any_octets.result ≡ cleared c.args.bits (map (prefix_octet c.args.default c.args.omitted c.args.bits c.args.at c.args.payload.now) (range_with_len 0 g.row.N)) = c.any_octets.ensures in
    rw value (cleared-cleared c.args.bits (map (prefix_octet c.args.default c.args.omitted c.args.bits c.args.at c.args.payload.now) (range_with_len 0 g.row.N)))
