-- The halves are the groups.
use Rattle.std.proofs.Common.{◌∙◌, ap, w64}
use Rattle.std.specs.Int.{from_be_bytes}
use Rattle.std.specs.Prelude.{take}
use Rattle.babel_value.proofs.Groups.{in_halves}
use Rattle.babel_value.proofs.line_parts.put_ipv6.Goals as goal

pub returns-clause-text : goal.returns-clause-text
returns-clause-text c =
    let first = c.from_be_bytes.ensures ∙ ap (from_be_bytes w64) c.first_half.ensures in
    let last = c.from_be_bytes-2.ensures ∙ ap (from_be_bytes w64) c.last_half.ensures in
    rw (c.put_half.ensures.text, c.put_str-len.ensures.text, c.put_half-len.ensures.text, first, last)
    (in_halves (take c.args.len c.args.line.now) c.args.octets.now c.fits-octets)
