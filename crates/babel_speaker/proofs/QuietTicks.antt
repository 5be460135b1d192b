-- Before a request, a timer of an interface or a deadline of a neighbour is due a tick changes nothing of them.
use Rattle.std.proofs.Common.{◌≡◌, ℕ, ◌+◌, Bool, true, false, List, [], ◌∷◌, ◌++◌, map, refl, ap, ◌∙◌}
use Rattle.std.specs.Prelude.{◌||◌}
use Rattle.std.specs.List.{list_any}
use Rattle.babel_link.specs.Neighbours.{tick_of, gone_of}
use Rattle.babel_table.specs.Entries.{revised_entries}
use Rattle.babel_value.specs.Prefixes.{PrefixValue}
use Rattle.babel_state.specs.PendingRequests.{PendingRequests}
use Rattle.babel_state.specs.declared.interfaces.InterfaceEntry.{InterfaceEntry}
use Rattle.babel_state.specs.declared.items.Item.{Item}
use Rattle.babel_state.specs.Queueing.{queued}
use Rattle.babel_state.specs.State.{State}
use Rattle.babel_state.specs.Ticks.{forget_each, links_ticked, is_due_request, waited, repeated_items, all_repeated_items, requests_ticked, is_due, fired, timer_items, all_timer_items, interfaces_ticked}
use Rattle.babel_speaker.specs.DueTimers.{has_due_timer, has_due_update}
use Rattle.babel_speaker.specs.TickItems.{timers_of, all_timers_of}

neither : (a b : Bool) → (a || b) ≡ false → (a ≡ false) × (b ≡ false)
neither true b none = cc
neither false b none = (refl, none)

module _ (now : ℕ) where
  same_timers : (i : InterfaceEntry) → has_due_timer now i ≡ false → fired now i ≡ i
  same_timers i none =
      let first = neither (is_due now i.hello_due) (is_due now i.ihu_due || is_due now i.update_due) none in
      let rest = neither (is_due now i.ihu_due) (is_due now i.update_due) first.1 in
      rw (first.0, rest.0, rest.1) refl

  no_items : (s : State) (iface : ℕ) (i : InterfaceEntry) → has_due_timer now i ≡ false → timer_items now s iface i ≡ []
  no_items s iface i none =
      let first = neither (is_due now i.hello_due) (is_due now i.ihu_due || is_due now i.update_due) none in
      let rest = neither (is_due now i.ihu_due) (is_due now i.update_due) first.1 in
      rw (first.0, rest.0, rest.1) refl

  all_same : (is : List InterfaceEntry) → list_any (has_due_timer now) is ≡ false → map (fired now) is ≡ is
  all_same [] none = refl
  all_same (i ∷ is) none =
      let parts = neither (has_due_timer now i) (list_any (has_due_timer now) is) none in
      ap (λ x. x ∷ map (fired now) is) (same_timers i parts.0) ∙ ap (λ xs. i ∷ xs) (all_same is parts.1)

  no_items_of_all : (s : State) (iface : ℕ) (is : List InterfaceEntry) → list_any (has_due_timer now) is ≡ false → all_timer_items now s iface is ≡ []
  no_items_of_all s iface [] none = refl
  no_items_of_all s iface (i ∷ is) none =
      let parts = neither (has_due_timer now i) (list_any (has_due_timer now) is) none in
      ap (λ xs. xs ++ all_timer_items now s (iface + 1) is) (no_items s iface i parts.0) ∙ no_items_of_all s (iface + 1) is parts.1

  queues_nothing : (xs : List Item) (is : List InterfaceEntry) (s : State) → xs ≡ [] → is ≡ s.interfaces → record s { interfaces = is; pending = queued xs s.pending } ≡ s
  unfolding queued
  queues_nothing xs is s none same = ap (λ ys. record s { interfaces = is; pending = queued ys s.pending }) none ∙ ap (λ js. record s { interfaces = js }) same

  pub nothing_due : (s : State) → list_any (has_due_timer now) s.interfaces ≡ false → interfaces_ticked now s ≡ s
  unfolding interfaces_ticked
  nothing_due s none = queues_nothing (all_timer_items now s 0 s.interfaces) (map (fired now) s.interfaces) s (no_items_of_all s 0 s.interfaces none) (all_same s.interfaces none)

-- ---- no update of each prefix

-- What the timers ask for without the list of the prefixes.
module _ (now : ℕ) (s : State) (prefixes : List PrefixValue) where
  pub no_updates : (iface : ℕ) (is : List InterfaceEntry) → list_any (has_due_update now) is ≡ false → all_timers_of now s.neighbours prefixes iface is ≡ all_timer_items now s iface is
  no_updates iface [] none = refl
  no_updates iface (i ∷ is) none =
      let parts = neither (has_due_update now i) (list_any (has_due_update now) is) none in
      let here : timers_of now s.neighbours prefixes iface i ≡ timer_items now s iface i = rw (parts.0) refl in
      ap (λ ys. ys ++ all_timers_of now s.neighbours prefixes (iface + 1) is) here ∙ ap (λ ys. timer_items now s iface i ++ ys) (no_updates (iface + 1) is parts.1)

-- ---- no request whose wait is over

module _ (now : ℕ) where
  all_wait : (es : PendingRequests) → list_any (λ e. is_due_request now e.1) es ≡ false → revised_entries (waited now) es ≡ es
  all_wait [] none = refl
  all_wait (e ∷ es) none =
      let parts = neither (is_due_request now e.1) (list_any (λ x. is_due_request now x.1) es) none in
      rw (parts.0) (ap (λ xs. e ∷ xs) (all_wait es parts.1))

  none_repeats : (s : State) (es : PendingRequests) → list_any (λ e. is_due_request now e.1) es ≡ false → all_repeated_items now s es ≡ []
  none_repeats s [] none = refl
  none_repeats s (e ∷ es) none =
      let parts = neither (is_due_request now e.1) (list_any (λ x. is_due_request now x.1) es) none in
      let waits : repeated_items now s e ≡ [] = rw (parts.0) refl in
      ap (λ xs. xs ++ all_repeated_items now s es) waits ∙ none_repeats s es parts.1

  queues_no_request : (xs : List Item) (rs : PendingRequests) (s : State) → xs ≡ [] → rs ≡ s.requests → record s { requests = rs; pending = queued xs s.pending } ≡ s
  unfolding queued
  queues_no_request xs rs s none same = ap (λ ys. record s { requests = rs; pending = queued ys s.pending }) none ∙ ap (λ qs. record s { requests = qs }) same

  pub no_request_due : (s : State) → list_any (λ e. is_due_request now e.1) s.requests ≡ false → requests_ticked now s ≡ s
  unfolding requests_ticked
  no_request_due s none = queues_no_request (all_repeated_items now s s.requests) (revised_entries (waited now) s.requests) s (none_repeats s s.requests none) (all_wait s.requests none)

  -- ---- no deadline of a neighbour

  pub no_link_due : (s : State) → gone_of now s.neighbours ≡ [] → tick_of now s.neighbours ≡ s.neighbours → links_ticked now s ≡ s
  unfolding links_ticked
  no_link_due s none same =
      ap (λ gone. forget_each gone (record s { neighbours = tick_of now s.neighbours })) none
      ∙ ap (λ links. record s { neighbours = links }) same
