-- Timers of an interface that are due (RFC 8966, sections 3.4.1, 3.4.2 and 3.7.1).
use Rattle.std.specs.Prelude.{ℕ, ◌≤◌, List, Bool, ◌||◌, All}
use Rattle.babel_state.specs.declared.interfaces.InterfaceEntry.{InterfaceEntry}
use Rattle.babel_state.specs.Ticks.{is_due}
use Rattle.babel_speaker.specs.Deadlines.{interface_due}

-- A timer of the interface is due.
abbrev pub has_due_timer : ℕ → InterfaceEntry → Bool
has_due_timer now i = is_due now i.hello_due || (is_due now i.ihu_due || is_due now i.update_due)

-- An update of each prefix is due on the interface.
abbrev pub has_due_update : ℕ → InterfaceEntry → Bool
has_due_update now i = is_due now i.update_due

-- No timer of the interfaces is due before the moment (profile).
abbrev pub AreTimersDueFrom : ℕ → List InterfaceEntry → Type 0
AreTimersDueFrom moment is = All (λ i. moment ≤ interface_due i) is
