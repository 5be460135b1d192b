-- The deadlines of a state: the moments from which on a tick has something to do (RFC 8966, sections 3.2.5, 3.4, 3.5.4, 3.7.1 and 3.8.2.1).
use Rattle.std.specs.Prelude.{◌≡◌, ◌<◌, ℕ, List, [], ◌∷◌, ◌++◌, map, min, Option, if◌then◌else◌}
use Rattle.std.specs.Option.{option_map_or, unwrap_or}
use Rattle.babel_link.specs.declared.links.History.{History}
use Rattle.babel_link.specs.declared.links.Link.{Link}
use Rattle.babel_state.specs.declared.interfaces.InterfaceEntry.{InterfaceEntry}
use Rattle.babel_state.specs.CurrentSelections.{AreCurrent}
use Rattle.babel_state.specs.SettledLaws.{AreSelectionsInOrder}
use Rattle.babel_state.specs.State.{State}
use Rattle.babel_state.specs.Ticks.{ticked}

-- The greatest moment: the deadline of what has none (profile).
abbrev pub never : ℕ
never = 18446744073709551615

-- The least of a moment and of those in a list.
abbrev pub earliest : ℕ → List ℕ → ℕ
earliest moment [] = moment
earliest moment (due ∷ dues) = earliest (min moment due) dues

-- A timer that was never set is due at once (RFC 8966, sections 3.4.1, 3.4.2 and 3.7.1).
abbrev pub timer_due : Option ℕ → ℕ
timer_due timer = unwrap_or timer 0

-- When the interface's next Hello, IHUs or Updates are due (RFC 8966, sections 3.4.1, 3.4.2 and 3.7.1).
abbrev pub interface_due : InterfaceEntry → ℕ
interface_due i = min (min (timer_due i.hello_due) (timer_due i.ihu_due)) (timer_due i.update_due)

-- When the next Hello of one kind is missed (RFC 8966, section 3.4.1 and appendix A.1).
abbrev pub hello_due : Option History → ℕ
hello_due history = option_map_or (λ h. option_map_or (λ timer. timer.due) h.timer never) history never

-- When a neighbour's Hello is missed or its IHU is too old (RFC 8966, sections 3.4.1 and 3.4.2).
abbrev pub link_due : Link → ℕ
link_due link = min (min (hello_due link.multicast) (hello_due link.unicast)) (unwrap_or link.txcost_due never)

-- When sources are collected, if they are (RFC 8966, section 3.2.5).
abbrev pub source_dues : State → List ℕ
source_dues s = if s.collects then map (λ e. e.1.due) s.sources else []

-- All of them: those of interfaces, of neighbours, of routes (RFC 8966, section 3.5.4), of pending requests (RFC 8966, section 3.8.2.1) and of sources.
abbrev pub deadlines : State → List ℕ
deadlines s =
    map interface_due s.interfaces ++ (map (λ e. link_due e.1) s.neighbours ++ (map (λ e. e.1.deadline) s.routes.entries
    ++ (map (λ e. e.1.due) s.requests ++ source_dues s)))

-- The least of them; the greatest moment, if there is none.
unfoldable pub next_deadline : State → ℕ
next_deadline s = earliest never (deadlines s)

-- If all selections are current, a tick before the least deadline changes nothing.
abbrev pub EarlyTicksChangeNothing : Type 0
EarlyTicksChangeNothing =
    (now : ℕ) (s : State) → AreSelectionsInOrder s → AreCurrent s → now < next_deadline s → ticked now s ≡ s
