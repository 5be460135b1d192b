-- The intervals of the messages of a speaker (RFC 8966, appendix B). The law `limits_are_those_of_the_code` ties them to the code's.
use Rattle.std.specs.Prelude.{ℕ}

-- How many Hello intervals the interval of an IHU and that of an Update have.
abbrev pub hellos_an_ihu : ℕ
hellos_an_ihu = 3

abbrev pub hellos_an_update : ℕ
hellos_an_update = 4
