-- The encodings that come last in the definition are read off first.
use Rattle.std.proofs.Common.{◌≡◌, ℕ, ◌≤◌, List, length, drop, Some, nat_lt, false, refl, arith}
use Rattle.std.proofs.lemmas.Bool.{le-ltb}
use Rattle.std.proofs.lemmas.Slice.{between_to_end}
use Rattle.babel_value.specs.declared.addresses.Addr.TheVariants.{V6}
use Rattle.babel_packet.specs.Numbers.{octet}
use Rattle.babel_packet.specs.Addresses.{ipv6_at, link_local_at}
use Rattle.babel_packet.specs.Tails.{after_tail}
use Rattle.babel_packet.specs.Ihus.{ihu, ihu_of, ihu_to}
use Rattle.babel_packet.proofs.ihus.read_ihu.Goals as goal

ihu_at_2 : (p : List ℕ) → 22 ≤ length p → octet p 0 ≡ 2 → ihu p ≡ after_tail (drop 22 p) (ihu_to (Some (V6 (ipv6_at p 6))) p)
unfolding ihu ihu_of
ihu_at_2 p long ae =
    let t : nat_lt (length p) 6 ≡ false = le-ltb _ _ (omega arith) in let u : nat_lt (length p) 22 ≡ false = le-ltb _ _ long in
    rw (t, ae, u) refl

ihu_at_3 : (p : List ℕ) → 14 ≤ length p → octet p 0 ≡ 3 → ihu p ≡ after_tail (drop 14 p) (ihu_to (Some (V6 (link_local_at p 6))) p)
unfolding ihu ihu_of
ihu_at_3 p long ae =
    let t : nat_lt (length p) 6 ≡ false = le-ltb _ _ (omega arith) in let u : nat_lt (length p) 14 ≡ false = le-ltb _ _ long in
    rw (t, ae, u) refl

pub returns-in-2 : goal.returns-in-2
returns-in-2 c =
    let e = ihu_at_2 c.args.payload.now c.if-length-2.true c.in-2.is in
    let tail = between_to_end c.args.payload.now 22 (length c.args.payload.now) (omega arith) in cc

pub returns-in-3 : goal.returns-in-3
returns-in-3 c =
    let e = ihu_at_3 c.args.payload.now c.if-length-3.true c.in-3.is in
    let tail = between_to_end c.args.payload.now 14 (length c.args.payload.now) (omega arith) in cc
