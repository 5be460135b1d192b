-- What comes is taken in, and nothing is sent.
use Rattle.std.proofs.Common.{◌≡◌, ℕ, List, [], ◌∷◌, Option}
use Rattle.babel_state.specs.State.{State}
use Rattle.babel_state.specs.Ticks.{ticked}
use Rattle.babel_wire.specs.declared.report.Report.{Report}
use Rattle.babel_wire.specs.Calls.{Call, Recv, Now, Receipt, Grows}
use Rattle.babel_wire.specs.Turns.{IsReceived}
use Rattle.babel_wire.proofs.Sendings.{grows_more}
use Rattle.babel_wire.specs.Intakes.{IsOneIntake}

pub taken_in_once : (now : ℕ) (receipt : Receipt) (old received new : State) (h h1 h2 : Option (List Call)) (q : Report) →
    Grows h (Recv receipt ∷ []) h1 → Grows h1 (Now now ∷ []) h2 → IsReceived now receipt old received q → new ≡ ticked now received → IsOneIntake old h new h2 q
taken_in_once now receipt old received new h h1 h2 q asked moment took tick = record {
  intake = record { receipt = receipt; is_refused = took.is_refused; now = now };
  speaker = record { received = received; receives = took.speaker; ticks = tick };
  calls = grows_more h (Recv receipt ∷ []) h1 (Now now ∷ []) h2 asked moment;
  counts = took.counts;
}
