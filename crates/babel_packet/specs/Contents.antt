-- The content of a place of a datagram: its message, state for the places after it, or the reason why it is ignored (RFC 8966, section 4.5).
use Rattle.std.specs.Prelude.{ℕ, List, [], ◌∷◌, ◌++◌, Option, Some, None}
use Rattle.babel_message.specs.declared.placements.Content.{Content}
use Rattle.babel_message.specs.declared.placements.Content.TheVariants as contents
use Rattle.babel_message.specs.declared.placements.Reason.{Reason}
use Rattle.babel_message.specs.declared.placements.Placed.{Placed}
use Rattle.babel_message.specs.declared.messages.Message.{Message}

abbrev pub means : Message → Content
means message = contents.Message message

abbrev pub ignored : Reason → Content
ignored reason = contents.Ignored reason

-- the first reason, if there is one, and else the content
abbrev pub unless : Option Reason → Content → Content
unless None content = content
unless (Some reason) content = ignored reason

-- the list with one more place
abbrev pub put : List Placed → ℕ → Content → List Placed
put placed offset content = placed ++ (record { offset = offset; content = content }) ∷ []
