-- The record of what was sent (profile): the octets of all datagrams, one after another, and where each one's are.
use Rattle.std.specs.Prelude.{◌≡◌, ◌≤◌, ℕ, List, [], ◌∷◌, ◌++◌, slice_range, Option, Some, None}
use Rattle.babel_state.specs.State.{State}
use Rattle.babel_net.specs.declared.sent.Place.{Place}
use Rattle.babel_net.specs.Networks.{SentOctets}
use Rattle.babel_speaker.specs.Sending.{draft_at}
use Rattle.babel_net.specs.Steps.{IsSent}

-- The place is within so many octets.
pub record IsWithin (count : ℕ) (p : Place) : Type 0 where
  pub ordered : p.start ≤ p.end
  pub within : p.end ≤ count

-- The datagram of a place.
abbrev pub datagram_in : List ℕ → Place → SentOctets
datagram_in octets p = record { node = p.node; source = p.source; octets = slice_range octets p.start p.end }

-- The list with what was sent, if anything was.
abbrev pub also_sent : List SentOctets → Option SentOctets → List SentOctets
also_sent old None = old
also_sent old (Some d) = old ++ d ∷ []

-- The next datagram of the node's speaker is recorded. With nothing to send, nothing is recorded.
pub record IsRecorded (node now : ℕ) (speaker : State) (old new : List SentOctets) : Type 0 where
  pub sent : Option SentOctets
  pub is_sent : IsSent node speaker (draft_at now speaker) (draft_at now speaker).target sent
  pub next : new ≡ also_sent old sent
