-- The ledger of the steps is that of the blank.
use Rattle.babel_table.proofs.plain.lesser_than.Given as goal

abbrev pub ghosts-lesser_on : goal.ghosts-lesser_on
ghosts-lesser_on g a = record { name = a.blank.name; parts = a.blank.parts }
