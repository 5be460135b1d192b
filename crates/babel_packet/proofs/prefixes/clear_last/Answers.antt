-- The length is eight for each whole octet, and what is left over.
use Rattle.std.proofs.Common.{◌≡◌, suc, ◌+◌, ◌*◌, ◌/◌, ◌%◌, arith}
use Rattle.babel_packet.proofs.Clearing.{AreZeros, cleared-whole, cleared-part}
use Rattle.babel_packet.proofs.prefixes.clear_last.Goals as goal

pub returns-then-bits-eq0 : goal.returns-then-bits-eq0
returns-then-bits-eq0 g c =
    let parts : 8 * (c.args.bits / 8) ≡ c.args.bits = omega arith in
    let zeros : AreZeros (c.args.bits / 8) c.args.octets = λ j le. c.requires.zeros j (omega arith) in
    let e = cleared-whole (c.args.bits / 8) c.args.octets zeros in cc

pub returns : goal.returns
returns g c =
    let parts : 8 * (c.args.bits / 8) + c.args.bits % 8 ≡ c.args.bits = omega arith in
    let zeros : AreZeros (suc (c.args.bits / 8)) c.args.octets = λ j le. c.requires.zeros j (omega arith) in
    let e = cleared-part (c.args.bits / 8) (c.args.bits % 8) c.args.octets (omega arith) (omega arith) zeros in cc
