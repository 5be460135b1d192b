-- A process of two turns, of which the first keeps and the second can't (profile).
use Rattle.std.specs.Prelude.{ℕ, Bool, true, false, List, [], ◌∷◌, ◌++◌, Some, None}
use Rattle.babel_wire.specs.Calls.{Call, Recv, Now, Send, Keep, Nothing, Sending}
use Rattle.babel_wire.specs.Keeping.{DurableTurn, Keeping, Tried, calls_of}
use Rattle.babel_wire.specs.Cuts.{File}

abbrev pub sending : ℕ → Bool → Sending
sending octet is_sent = record { target = record { iface = 0; to = None }; octets = octet ∷ []; is_sent = is_sent }

abbrev pub turn_at : ℕ → List Sending → Keeping → DurableTurn
turn_at now sendings keeping =
    record { turn = record { receipt = Nothing; is_refused = false; now = now; sendings = sendings }; keeping = keeping }

-- The snapshot is kept, and two datagrams are sent.
abbrev pub kept_turn : DurableTurn
kept_turn = turn_at 5 (sending 7 true ∷ sending 8 true ∷ []) (Tried (1 ∷ []) true)

-- The keep fails, and the datagram that was taken isn't sent.
abbrev pub failed_turn : DurableTurn
failed_turn = turn_at 6 (sending 9 false ∷ []) (Tried (2 ∷ []) false)

abbrev pub both_turns : List Call
both_turns = calls_of (kept_turn ∷ failed_turn ∷ [])

-- Killed in the first keep, after it, in the second datagram, and in the second keep.
abbrev pub in_first_keep : List Call
in_first_keep = Recv Nothing ∷ Now 5 ∷ Keep (1 ∷ []) false ∷ []

abbrev pub after_first_keep : List Call
after_first_keep = Recv Nothing ∷ Now 5 ∷ Keep (1 ∷ []) true ∷ []

abbrev pub in_second_datagram : List Call
in_second_datagram = after_first_keep ++ Send (sending 7 true) ∷ Send (sending 8 true) ∷ []

abbrev pub in_second_keep : List Call
in_second_keep = in_second_datagram ++ Recv Nothing ∷ Now 6 ∷ Keep (2 ∷ []) false ∷ []

-- What was there before.
abbrev pub old_file : File
old_file = Some (0 ∷ [])
