-- How much the source table has room for (profile), and how long an unused source is kept. The law
-- `limits_are_those_of_the_code` of `babel_speaker` ties these numbers to the code's.
use Rattle.std.specs.Prelude.{ℕ}

abbrev pub most_sources : ℕ
most_sources = 512

-- In centiseconds: 3 minutes (RFC 8966, appendix B).
abbrev pub collection_time : ℕ
collection_time = 18000
