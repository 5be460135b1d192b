-- The ledger of the steps is that of the blank.
use Rattle.babel_table.proofs.plain.place_of.Given as goal

abbrev pub ghosts-place_on : goal.ghosts-place_on
ghosts-place_on g a = record { name = a.blank.name; parts = a.blank.parts }
