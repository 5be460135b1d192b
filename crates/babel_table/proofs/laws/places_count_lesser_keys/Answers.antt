use Rattle.babel_table.proofs.PlaceLemmas.{lesser_at}
use Rattle.babel_table.proofs.laws.places_count_lesser_keys.Goals as goal

pub returns : goal.returns
returns g c = λ es place entry sorted at. lesser_at g.K.Key.order g.met.K.Key.total es place entry sorted at
