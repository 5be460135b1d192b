-- What is on disk, and what was sent, when a process is killed (profile).
use Rattle.std.specs.Prelude.{◌≡◌, ◌⊎◌, Bool, true, false, List, [], ◌∷◌, ◌++◌, All, Contains, ℕ, Option, Some, None}
use Rattle.babel_state.specs.Restarts.{Snapshot}
use Rattle.babel_wire.specs.Calls.{Sending, Call, Recv, Now, Send, Keep}
use Rattle.babel_wire.specs.Keeping.{AreOctetsOf}

-- ---- where a process is killed

-- A call in which the process is killed. A keep may be done or not; a datagram counts as sent.
abbrev pub begun : Call → Call
begun (Recv receipt) = Recv receipt
begun (Now moment) = Now moment
begun (Send x) = Send x
begun (Keep octets is_done) = Keep octets false

-- The calls until the process is killed, of those that it would have made: it is killed at once, or after the first call, or in it.
abbrev pub IsCutOf : List Call → List Call → Type 0
IsCutOf [] calls = Unit {0}
IsCutOf (c ∷ cs) [] = ⊥
IsCutOf (c ∷ cs) (x ∷ xs) = ((c ≡ x) × IsCutOf cs xs) ⊎ ((c ≡ begun x) × (cs ≡ []))

-- ---- what was sent

-- The datagrams that the wire was given. One that it failed to send counts too, since a copy of it may have been sent.
abbrev pub sent_in : List Call → List Sending
sent_in [] = []
sent_in (Recv receipt ∷ cs) = sent_in cs
sent_in (Now moment ∷ cs) = sent_in cs
sent_in (Send x ∷ cs) = x ∷ sent_in cs
sent_in (Keep octets is_done ∷ cs) = sent_in cs

-- ---- what is on disk

-- The octets of the file, if there is one.
abbrev pub File : Type 0
File = Option (List ℕ)

-- What may be on disk after a call. A keep that failed may have changed it or not.
abbrev pub after_call : List File → Call → List File
after_call files (Recv receipt) = files
after_call files (Now moment) = files
after_call files (Send x) = files
after_call files (Keep octets true) = Some octets ∷ []
after_call files (Keep octets false) = Some octets ∷ files

-- What may be on disk after some calls, if this is what may have been there before them.
abbrev pub on_disk : List File → List Call → List File
on_disk files [] = files
on_disk files (c ∷ cs) = on_disk (after_call files c) cs

-- What was kept last is all that may be on disk.
abbrev pub IsOnDisk : Option Snapshot → List File → Type 0
IsOnDisk None files = Unit {0}
IsOnDisk (Some snapshot) files = All (λ (file : File). (octets : List ℕ) × (file ≡ Some octets) × AreOctetsOf snapshot octets) files

-- ---- the same in other words

-- No keep succeeded.
abbrev pub NoneKept : List Call → Type 0
NoneKept calls = (octets : List ℕ) → ¬ Contains calls (Keep octets true)

-- These octets were tried to be kept, and no keep succeeded later.
pub record IsTried (calls : List Call) (octets : List ℕ) : Type 0 where
  pub before : List Call
  pub is_done : Bool
  pub after : List Call
  pub whole : calls ≡ before ++ Keep octets is_done ∷ after
  pub last : NoneKept after

-- The file is what the last keep that succeeded was given, or one that was tried later. If none succeeded, it may also be what was there before.
abbrev pub IsLastTried : List File → List Call → File → Type 0
IsLastTried files calls file = ((octets : List ℕ) × (file ≡ Some octets) × IsTried calls octets) ⊎ (Contains files file × NoneKept calls)
