-- What `insert` changes, as a list of one address.
use Rattle.std.proofs.Common.{◌≡◌, Some, cond, subst}
use Rattle.std.specs.BTreeMap.{get}
use Rattle.std.specs.Ordering.{eq_by_cmp}
use Rattle.std.specs.declared.cmp.Ordering.{Ordering}
use Rattle.babel_value.specs.declared.addresses.Addr.{Addr}
use Rattle.babel_value.specs.Orders.{addr_cmp}
use Rattle.babel_owners.proofs.SharedAddresses.{put_listed}
use Rattle.babel_owners.proofs.AddrCmp.{same_cmp}
use Rattle.babel_owners.proofs.owners.add_addr.Goals as goal

pub returns-in_ok-insert : goal.returns-in_ok-insert
returns-in_ok-insert c = λ one.
    let old = c.args.nodes.now in
    let new = c.insert.new.self in
    let addr = c.in-Some.addr in
    let put = subst (λ (cmp : Addr → Addr → Ordering). get cmp new one ≡ cond (eq_by_cmp cmp addr one) (Some c.args.node) (get cmp old one)) same_cmp (c.in_ok-insert.ensures.updates.0 one) in
    put_listed addr one c.args.node c.args.addr (get addr_cmp old one) (get addr_cmp new one) c.in-Some.is put
