-- The last 8 of 16 octets are those behind the first 8.
use Rattle.std.proofs.Common.{drop, arith, length-drop}
use Rattle.std.proofs.lemmas.List.{take_all}
use Rattle.babel_build.proofs.fields.encoded.Goals as goal

pub returns-in-V6-clause-octets : goal.returns-in-V6-clause-octets
returns-in-V6-clause-octets c =
    let o = c.in-V6.octets in
    rw (c.in-V6.is, ← c.is_link_local.ensures, c.if-is_link_local.true) (take_all 8 (drop 8 o) (omega (arith, length-drop 8 o)))
