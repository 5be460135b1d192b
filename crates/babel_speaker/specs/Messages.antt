-- The messages that come in numbers: an IHU for each node of a link, and an Update for each prefix (profile).
use Rattle.std.specs.Prelude.{◌||◌, Bool, true, false}
use Rattle.babel_message.specs.declared.messages.Message.{Message}
use Rattle.babel_message.specs.declared.messages.Message.TheVariants as messages

abbrev pub is_ihu : Message → Bool
is_ihu (messages.Ihu to rxcost interval) = true
is_ihu message = false

abbrev pub is_update : Message → Bool
is_update (messages.Update prefix router next_hop seqno metric interval) = true
is_update message = false

abbrev pub is_frequent : Message → Bool
is_frequent message = is_ihu message || is_update message
