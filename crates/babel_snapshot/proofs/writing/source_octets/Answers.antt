-- The length and the router-id follow the address.
use Rattle.std.proofs.Common.{refl, ◌∷◌, ◌++◌, ◌∙◌, replicate, ap}
use Rattle.babel_snapshot.specs.Octets.{addr_octets}
use Rattle.babel_snapshot.proofs.WrittenParts.{written_over}
use Rattle.babel_snapshot.proofs.writing.source_octets.Goals as goal

pub returns-clause-octets : goal.returns-clause-octets
returns-clause-octets c =
    written_over c.copy_from_slice.new.self (replicate 9 0) c.copy_from_slice-2.new.self 17 9 c.copy_from_slice.ensures.len refl
    ∙ (λ i. (c.copy_from_slice.ensures.after ∙ c.addr_octets.ensures.octets ∙ ap addr_octets c.addr-addr.ensures.value) i ++ (c.copy_from_slice-2.ensures.after ∙ c.length_and_router.ensures) i)
    ∙ (λ i. addr_octets c.args.source.now.prefix.addr ++ c.length-length.ensures.value i ∷ c.octets-router.ensures.value i)
