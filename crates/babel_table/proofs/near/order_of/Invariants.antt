-- The ledger of the step is that of the blank.
use Rattle.babel_table.proofs.near.order_of.Given as goal

abbrev pub ghosts-order_on : goal.ghosts-order_on
ghosts-order_on g a = record { name = a.blank.name; parts = a.blank.parts }
