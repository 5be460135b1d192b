-- The ledger of the steps is that of the blank.
use Rattle.babel_table.proofs.table.find_in.Given as goal

abbrev pub ghosts-find_on : goal.ghosts-find_on
ghosts-find_on g a = record { name = a.blank.name; parts = a.blank.parts }
