-- The calls of a wire and of a store, in one history (profile).
use Rattle.std.specs.Prelude.{◌≡◌, ◌≤◌, ℕ, Bool, true, false, List, ◌++◌, length, take, Option, Some, None, Result, Ok, Err}
use Rattle.babel_value.specs.declared.addresses.Addr.{Addr}
use Rattle.babel_state.specs.declared.items.Target.{Target}
use Rattle.babel_wire.specs.declared.wire.Arrival.{Arrival}
use Rattle.babel_wire.specs.declared.errors.WireFault.{WireFault}

-- What receiving returned.
pub data Receipt : Type 0 where
  Nothing : Receipt
  Failed : Receipt
  -- a datagram with these octets, over the interface of this number, from this address
  Datagram : ℕ → Addr → List ℕ → Receipt

-- A datagram that the wire was given to send, and whether it was sent.
pub record Sending : Type 0 where
  pub target : Target
  pub octets : List ℕ
  pub is_sent : Bool

-- A call, and what it returned.
pub data Call : Type 0 where
  Recv : Receipt → Call
  Now : ℕ → Call
  Send : Sending → Call
  -- the store was given these octets to keep, and whether they are kept
  Keep : List ℕ → Bool → Call

abbrev pub receipt_of : Result (Option Arrival) WireFault → List ℕ → Receipt
receipt_of (Ok (Some arrival)) buf = Datagram arrival.iface arrival.source (take arrival.len buf)
receipt_of (Ok None) buf = Nothing
receipt_of (Err fault) buf = Failed

abbrev pub is_done : {E : Type 0} → Result Unit E → Bool
is_done (Ok u) = true
is_done (Err fault) = false

abbrev pub sending_of : Target → List ℕ → Result Unit WireFault → Sending
sending_of target octets result = record { target = target; octets = octets; is_sent = is_done result }

abbrev pub call_of_recv : Result (Option Arrival) WireFault → List ℕ → Call
call_of_recv result buf = Recv (receipt_of result buf)

abbrev pub call_of_now : ℕ → Call
call_of_now moment = Now moment

abbrev pub call_of_send : Target → List ℕ → Result Unit WireFault → Call
call_of_send target octets result = Send (sending_of target octets result)

abbrev pub call_of_keep : {E : Type 0} → List ℕ → Result Unit E → Call
call_of_keep octets result = Keep octets (is_done result)

-- The history of a wire grows by these calls. A wire that knows no history, or no longer, says nothing.
abbrev pub Grows : Option (List Call) → List Call → Option (List Call) → Type 0
Grows old calls None = Unit {0}
Grows None calls (Some new) = ⊥
Grows (Some old) calls (Some new) = new ≡ old ++ calls

-- A call that failed counts 1.
abbrev pub failures : {T : Type 0} → Result T WireFault → ℕ
failures (Ok t) = 0
failures (Err fault) = 1

-- A datagram that came has its place in the buffer.
abbrev pub IsWithin : Result (Option Arrival) WireFault → List ℕ → Type 0
IsWithin (Ok (Some arrival)) buf = arrival.len ≤ length buf
IsWithin (Ok None) buf = Unit {0}
IsWithin (Err fault) buf = Unit {0}
