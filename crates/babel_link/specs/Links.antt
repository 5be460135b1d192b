-- What is known of one neighbour, and how Hellos, IHUs and time change it (RFC 8966, sections 3.2.4, 3.4.1 and 3.4.2).
use Rattle.std.specs.Prelude.{◌≡◌, ◌<◌, ℕ, Bool, true, false, ◌||◌, nat_le, ◌==◌, Option, Some, None, is_some, IsTrue, IsFalse, if◌then◌else◌}
use Rattle.std.specs.Option.{option_map, option_map_or, option_and_then}
use Rattle.babel_link.specs.declared.links.Timer.{Timer}
use Rattle.babel_link.specs.declared.links.History.{History}
use Rattle.babel_link.specs.declared.links.Link.{Link}
use Rattle.babel_link.specs.declared.marks.Heard.{Heard}
use Rattle.babel_link.specs.declared.marks.Heard.TheVariants.{Kept}
use Rattle.babel_value.specs.Metrics.{infinity}
use Rattle.babel_value.specs.Moments.{later, hold_time}
use Rattle.babel_link.specs.Moments.{hello_patience}
use Rattle.babel_link.specs.Histories.{is_far, first_marks, heard_marks, heard_verdict, missed_marks, is_up, has_received}

-- A neighbour of which nothing is known: no Hello of either kind, no IHU (RFC 8966, section 3.2.4).
abbrev pub new_link : Link
new_link = record { multicast = None; unicast = None; txcost = infinity; txcost_due = None }

-- The history of one kind of Hellos (RFC 8966, section 3.2.4).
abbrev pub history_of : Bool → Link → Option History
history_of unicast link = if unicast then link.unicast else link.multicast

abbrev pub with_history : Bool → Option History → Link → Link
with_history unicast history link = if unicast then record link { unicast = history } else record link { multicast = history }

-- ---- a Hello (RFC 8966, section 3.4.1)

-- The timer after a Hello: one with interval 0 leaves it (RFC 8966, section 4.6.5 and appendix A.1).
abbrev pub hello_timer : ℕ → ℕ → Option Timer → Option Timer
hello_timer now interval timer =
    if interval == 0 then timer else Some (record { interval = interval; due = later now (hello_patience interval) })

-- The history that the first Hello of a kind makes (RFC 8966, appendix A.1).
abbrev pub first_history : ℕ → ℕ → ℕ → History
first_history now n interval = record { marks = first_marks n; timer = hello_timer now interval None }

-- The history after a later Hello. One that flushes takes the timer too (RFC 8966, appendix A.1).
unfoldable pub later_history : ℕ → ℕ → ℕ → History → History
later_history now n interval h =
    record { marks = heard_marks n h.marks; timer = hello_timer now interval (if is_far n h.marks then None else h.timer) }

abbrev pub next_history : ℕ → ℕ → ℕ → Option History → History
next_history now n interval None = first_history now n interval
next_history now n interval (Some h) = later_history now n interval h

-- What a Hello with seqno n means for the neighbour: the first one of a kind keeps it (RFC 8966, appendix A.1).
unfoldable pub link_verdict : Bool → ℕ → Link → Heard
link_verdict unicast n link = option_map_or (λ h. heard_verdict n h.marks) (history_of unicast link) Kept

-- The Hello is far away from the one that its history expects (RFC 8966, appendix A.1).
abbrev pub is_flushed_by : Bool → ℕ → Link → Bool
is_flushed_by unicast n link = option_map_or (λ h. is_far n h.marks) (history_of unicast link) false

-- The link after a Hello. It makes a neighbour that it flushes again (RFC 8966, section 3.4.1 and appendix A.1).
unfoldable pub hello_link : ℕ → Bool → ℕ → ℕ → Link → Link
hello_link now unicast n interval link =
    with_history unicast (Some (next_history now n interval (history_of unicast link)))
    (if is_flushed_by unicast n link then new_link else link)

-- ---- an IHU (RFC 8966, section 3.4.2)

-- The link after an IHU: its rxcost there is the txcost here (RFC 8966, section 3.4.2).
unfoldable pub ihu_link : ℕ → ℕ → ℕ → Link → Link
ihu_link now rxcost interval link =
    record link { txcost = rxcost; txcost_due = Some (later now (hold_time interval)) }

-- ---- a tick (RFC 8966, sections 3.4.1 and 3.4.2, appendix A.1)

-- The timer that a fired deadline sets again: from now on, and by the whole interval (RFC 8966, appendix A.1).
abbrev pub again : ℕ → Timer → Timer
again now timer = record { interval = timer.interval; due = later now timer.interval }

-- A history whose deadline is due, after it fired: the expected Hello was missed (RFC 8966, appendix A.1). None if no deadline is due.
unfoldable pub fired_history : ℕ → History → Option History
fired_history now h =
    option_and_then
    (λ timer. if nat_le timer.due now then Some (record { marks = missed_marks h.marks; timer = Some (again now timer) }) else None)
    h.timer

-- Some Hello of the kind is remembered (RFC 8966, appendix A.1).
abbrev pub is_heard : Option History → Bool
is_heard history = option_map_or (λ h. has_received h.marks.marks) history false

-- A neighbour of which no Hello of either kind is remembered is flushed: None (RFC 8966, appendix A.1).
unfoldable pub unless_silent : Link → Option Link
unless_silent link = if is_heard link.multicast || is_heard link.unicast then Some link else None

-- The link after a tick handled one kind's deadline. None: the neighbour is flushed, which is tested if the deadline fired (RFC 8966, appendix A.1).
unfoldable pub fired_link : ℕ → Bool → Link → Option Link
fired_link now unicast link =
    option_map_or (λ h. unless_silent (with_history unicast (Some h) link))
    (option_and_then (fired_history now) (history_of unicast link)) (Some link)

-- The txcost is too old (RFC 8966, section 3.4.2).
abbrev pub is_txcost_due : ℕ → Link → Bool
is_txcost_due now link = option_map_or (λ due. nat_le due now) link.txcost_due false

-- The link after a tick handled the deadline of the txcost (RFC 8966, section 3.4.2).
unfoldable pub expired_link : ℕ → Link → Link
expired_link now link =
    if is_txcost_due now link
    then record link { txcost = infinity; txcost_due = None } else link

-- The link after a tick: first the multicast Hellos, then the unicast ones, then the txcost (profile). None: the neighbour is flushed.
unfoldable pub ticked_link : ℕ → Link → Option Link
ticked_link now link =
    option_map (expired_link now) (option_and_then (fired_link now true) (fired_link now false link))

-- A deadline of Hellos is due: the history fires (RFC 8966, appendix A.1).
abbrev pub is_hello_due : ℕ → Option History → Bool
is_hello_due now history = is_some (option_and_then (fired_history now) history)

-- The history after its deadline fired, if that is due (RFC 8966, appendix A.1).
abbrev pub after_deadline : ℕ → Option History → Option History
after_deadline now history = if is_hello_due now history then option_and_then (fired_history now) history else history

-- A deadline of Hellos is due, and after it no Hello of either kind is remembered (RFC 8966, appendix A.1).
abbrev pub FallsSilent : ℕ → Link → Type 0
FallsSilent now link =
    IsTrue (is_hello_due now link.multicast || is_hello_due now link.unicast)
    × IsFalse (is_heard (after_deadline now link.multicast) || is_heard (after_deadline now link.unicast))

-- No deadline of the link is due before the moment: a tick leaves the link as it is (profile).
abbrev pub IsQuietUntil : ℕ → Link → Type 0
IsQuietUntil moment link = (now : ℕ) → now < moment → ticked_link now link ≡ Some link

-- ---- costs (RFC 8966, appendix A.2.1)

-- A kind of which there was no Hello isn't up (RFC 8966, appendix A.2.1).
abbrev pub is_up_history : Option History → Bool
is_up_history history = option_map_or (λ h. is_up h.marks.marks) history false

-- The cost of receiving: the interface's nominal cost while either history is up, else infinity (RFC 8966, appendix A.2.1).
unfoldable pub link_rxcost : ℕ → Link → ℕ
link_rxcost nominal link = if is_up_history link.multicast || is_up_history link.unicast then nominal else infinity

-- The cost of the link: infinity if receiving costs that, else the cost of sending (RFC 8966, appendix A.2.1).
unfoldable pub link_cost : ℕ → Link → ℕ
link_cost nominal link = if link_rxcost nominal link == infinity then infinity else link.txcost
