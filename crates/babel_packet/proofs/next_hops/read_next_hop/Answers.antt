-- The link-local encoding comes last in the definition, and is read off first.
use Rattle.std.proofs.Common.{◌≡◌, ℕ, ◌≤◌, List, length, drop, nat_lt, false, refl, arith}
use Rattle.std.proofs.lemmas.Bool.{le-ltb}
use Rattle.std.proofs.lemmas.Slice.{between_to_end}
use Rattle.babel_message.specs.declared.placements.Content.TheVariants.{State}
use Rattle.babel_packet.specs.Numbers.{octet}
use Rattle.babel_packet.specs.Tails.{after_tail}
use Rattle.babel_packet.specs.NextHops.{next_hop, next_hop_of}
use Rattle.babel_packet.proofs.next_hops.read_next_hop.Goals as goal

next_hop_at_3 : (p : List ℕ) → 10 ≤ length p → octet p 0 ≡ 3 → next_hop p ≡ after_tail (drop 10 p) State
unfolding next_hop next_hop_of
next_hop_at_3 p long ae =
    let t : nat_lt (length p) 2 ≡ false = le-ltb _ _ (omega arith) in let u : nat_lt (length p) 10 ≡ false = le-ltb _ _ long in
    rw (t, ae, u) refl

pub returns-in-3-clause-placed : goal.returns-in-3-clause-placed
returns-in-3-clause-placed c =
    let e = next_hop_at_3 c.args.payload.now c.if-length-3.true c.in-3.is in
    let tail = between_to_end c.args.payload.now 10 (length c.args.payload.now) (omega arith) in cc
