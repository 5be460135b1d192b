-- The octets up to this one are cleared, and clearing the rest gives the whole.
use Rattle.std.proofs.Common.{◌≡◌, ◌++◌, take, drop}
use Rattle.babel_value.specs.Prefixes.{cleared}
use Rattle.babel_value.proofs.prefixes.clear_past.Given as goal

abbrev pub invariant-loop-octet : goal.invariant-loop-octet
invariant-loop-octet l =
    take l.octet-index l.octets ++ cleared l.left (drop l.octet-index l.octets) ≡ cleared l.length l.fn.octets
