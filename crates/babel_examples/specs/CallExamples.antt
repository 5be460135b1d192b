-- Own prefixes, a flushed neighbour, and what is pending (examples; profile).
use Rattle.std.specs.Prelude.{ℕ, [], false}
use Rattle.babel_message.specs.declared.messages.Message.TheVariants as messages
use Rattle.babel_state.specs.declared.items.Item.{Item}
use Rattle.babel_state.specs.declared.items.Item.TheVariants as items
use Rattle.babel_state.specs.Queueing.{Pending, queued_at_once}
use Rattle.babel_state.specs.State.{State}
use Rattle.babel_state.specs.Calls.{announced_also, withdrawn}
use Rattle.babel_examples.specs.ExampleStates.{peer, ten, after}
use Rattle.babel_examples.specs.LostRoutes.{updated_5}
use Rattle.babel_examples.specs.FullTables.{first_ones}

-- So many Acknowledgments are queued, with the numbers from 0 on.
abbrev pub ack : ℕ → Item
ack n = items.Ack (peer 9) n

abbrev pub queued_acks : ℕ → Pending
queued_acks n = queued_at_once (first_ones n ack) (record { items = []; dropped = 0 })

-- 10.0.0.0/8, whose route over neighbour 1 is selected, is announced, and withdrawn again.
abbrev pub announced_ten : State
announced_ten = announced_also ten updated_5

abbrev pub withdrawn_ten : State
withdrawn_ten = withdrawn ten announced_ten

-- A Hello with seqno 100 of neighbour 1, of whom 2 was expected.
abbrev pub flushed : State
flushed = after 40 1 (messages.Hello false 100 400) updated_5
