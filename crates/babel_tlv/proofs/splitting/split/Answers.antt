use Rattle.std.proofs.Common.{sym, ◌∙◌, refl}
use Rattle.babel_tlv.proofs.Found.{places_at-IsSliceOf}
use Rattle.babel_tlv.proofs.Splits.{spells-places_of, places_of-spelled, fault_of-IsFault}
use Rattle.babel_tlv.proofs.splitting.split.Goals as goal

pub returns-in-Some-clause-only : goal.returns-in-Some-clause-only
returns-in-Some-clause-only c = λ ts spells. let none = c.in-Some.ensures ∙ (places_of-spelled ts c.args.bytes.now spells).1 in absurd cc

pub returns-in-Some-clause-fault : goal.returns-in-Some-clause-fault
returns-in-Some-clause-fault c =
    fault_of-IsFault c.args.bytes.now c.in-Some.fault.offset (λ k. (c.type_inv.bytes k).fits) (sym c.in-Some.ensures)

pub returns-in-None-clause-found : goal.returns-in-None-clause-found
returns-in-None-clause-found c =
    rw c.walk.ensures.places (spells-places_of c.args.bytes.now (λ k. (c.type_inv.bytes k).fits) (sym c.in-None.ensures))

pub returns-in-None-clause-slices : goal.returns-in-None-clause-slices
returns-in-None-clause-slices c = rw c.walk.ensures.places (places_at-IsSliceOf c.args.bytes.now 0 c.args.bytes.now refl)

pub returns-in-None-clause-only : goal.returns-in-None-clause-only
returns-in-None-clause-only c = λ ts spells. c.walk.ensures.places ∙ (places_of-spelled ts c.args.bytes.now spells).0
