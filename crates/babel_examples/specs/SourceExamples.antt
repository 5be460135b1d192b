-- Rows worked by hand, on which the definitions are computed (profile).
use Rattle.std.specs.Prelude.{ℕ, [], ◌∷◌}
use Rattle.babel_value.specs.declared.addresses.Addr.TheVariants.{V4}
use Rattle.babel_value.specs.declared.keys.Source.{Source}
use Rattle.babel_value.specs.declared.distances.Distance.{Distance}
use Rattle.babel_sources.specs.Sources.{Sources, lowered}

abbrev pub pair : ℕ → ℕ → Distance
pair seqno metric = record { seqno = seqno; metric = metric }

-- The source of 10.n.0.0/16 that the router 1 announces.
abbrev pub source : ℕ → Source
source n = record {
  prefix = record { addr = V4 (10 ∷ n ∷ 0 ∷ 0 ∷ []); length = 16 };
  router = 0 ∷ 0 ∷ 0 ∷ 0 ∷ 0 ∷ 0 ∷ 0 ∷ 1 ∷ [];
}

-- After (5, 96) was sent at 0.
abbrev pub one_sent : Sources
one_sent = lowered 0 (source 2) (pair 5 96) []

-- After (5, 97), which is worse, was sent for it at 1.
abbrev pub sent_again : Sources
sent_again = lowered 1 (source 2) (pair 5 97) one_sent

-- After (0, 7) was sent for a lesser source at 1.
abbrev pub two_sent : Sources
two_sent = lowered 1 (source 1) (pair 0 7) one_sent

-- After (65535, 10), then (0, 500), were sent for a source.
abbrev pub wrapped : Sources
wrapped = lowered 3 (source 1) (pair 0 500) (lowered 2 (source 1) (pair 65535 10) [])
