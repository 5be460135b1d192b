use Rattle.babel_tlv.proofs.Splits.{places_of-spelled}
use Rattle.babel_tlv.proofs.laws.spelled_is_split.Goals as goal

pub returns-clause-places : goal.returns-clause-places
returns-clause-places c = λ ts bytes spells. (places_of-spelled ts bytes spells).0

pub returns-clause-fault : goal.returns-clause-fault
returns-clause-fault c = λ ts bytes spells. (places_of-spelled ts bytes spells).1
