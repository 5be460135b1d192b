use Rattle.babel_tlv.proofs.Found.{length-places_at}
use Rattle.babel_tlv.proofs.walking.walk.Goals as goal

pub returns-clause-few : goal.returns-clause-few
returns-clause-few c = length-places_at 0 0 c.args.bytes.now
