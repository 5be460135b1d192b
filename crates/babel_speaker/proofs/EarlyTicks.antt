-- A tick before the least deadline changes nothing if all selections are current.
use Rattle.std.proofs.Common.{◌≡◌, ℕ, ◌<◌, Bool, true, false, nat_le, List, [], ◌∷◌, ◌++◌, map, min, Option, Some, None, refl, ap, subst, ◌∙◌, cond, arith}
use Rattle.std.specs.List.{list_any}
use Rattle.std.specs.Option.{option_and_then, option_map_or, unwrap_or}
use Rattle.std.proofs.lemmas.Bool.Decides.{nat_tests}
use Rattle.std.proofs.Math.Nat.{min-le_right}
use Rattle.babel_link.specs.declared.links.Timer.{Timer}
use Rattle.babel_link.specs.declared.links.History.{History}
use Rattle.babel_link.specs.declared.links.Link.{Link}
use Rattle.babel_link.specs.Links.{fired_history, ticked_link}
use Rattle.babel_link.specs.Neighbours.{Links, tick_of, gone_of}
use Rattle.babel_link.proofs.DueLemmas.{not_fired, not_timed, quiet_link}
use Rattle.babel_choice.specs.Routes.{RouteEntries, expired}
use Rattle.babel_sources.specs.Sources.{Sources, collected}
use Rattle.babel_state.specs.declared.interfaces.InterfaceEntry.{InterfaceEntry}
use Rattle.babel_state.specs.PendingRequests.{PendingRequests}
use Rattle.babel_state.specs.CurrentSelections.{AreCurrent}
use Rattle.babel_state.specs.Reselection.{reselect_all}
use Rattle.babel_state.specs.SettledLaws.{AreSelectionsInOrder}
use Rattle.babel_state.specs.State.{State, with_entries}
use Rattle.babel_state.specs.Ticks.{is_due_request, links_ticked, routes_ticked, requests_ticked, interfaces_ticked, sources_ticked, ticked}
use Rattle.babel_state.proofs.SettledLemmas.{nothing_reselected}
use Rattle.babel_speaker.specs.DueTimers.{has_due_timer}
use Rattle.babel_speaker.proofs.QuietTicks.{nothing_due, no_request_due, no_link_due}
use Rattle.babel_speaker.proofs.TimerDues.{first_later, second_later, no_timer}
use Rattle.babel_speaker.specs.Deadlines.{never, earliest, interface_due, hello_due, link_due, source_dues, deadlines, next_deadline, EarlyTicksChangeNothing}
use Rattle.babel_speaker.proofs.Earliest.{earliest_both, no_later}

-- ---- what is due after a moment isn't due at it

module _ (now : ℕ) where
  head_later : (moment due : ℕ) (dues : List ℕ) → now < earliest (min moment due) dues → now < due
  head_later moment due dues early = omega (arith, early, no_later (min moment due) dues, min-le_right moment due)

  no_timers : (moment : ℕ) (is : List InterfaceEntry) → now < earliest moment (map interface_due is) → list_any (has_due_timer now) is ≡ false
  no_timers moment [] early = refl
  no_timers moment (i ∷ is) early =
      rw (no_timer now i (head_later moment (interface_due i) (map interface_due is) early)) (no_timers (min moment (interface_due i)) is early)

  no_hello : (history : Option History) → now < hello_due history → option_and_then (fired_history now) history ≡ None
  no_hello None early = refl
  no_hello (Some h) early = by h.timer refl
    where
      by : (timer : Option Timer) → h.timer ≡ timer → option_and_then (fired_history now) (Some h) ≡ None
      by None is = not_timed now (Some h) h refl is
      by (Some timer) is = not_fired now (Some h) h refl timer is (subst (λ (t : Option Timer). now < option_map_or (λ x. x.due) t never) is early)

  no_txcost : (due : Option ℕ) → now < unwrap_or due never → option_map_or (λ d. nat_le d now) due false ≡ false
  no_txcost None early = refl
  no_txcost (Some due) early = grind (arith, nat_tests)

  quiet : (link : Link) → now < link_due link → ticked_link now link ≡ Some link
  quiet link early =
      let hellos : now < min (hello_due link.multicast) (hello_due link.unicast) = first_later now (min (hello_due link.multicast) (hello_due link.unicast)) (unwrap_or link.txcost_due never) early in
      quiet_link now link
      (no_hello link.multicast (first_later now (hello_due link.multicast) (hello_due link.unicast) hellos))
      (no_hello link.unicast (second_later now (hello_due link.multicast) (hello_due link.unicast) hellos))
      (no_txcost link.txcost_due (second_later now (min (hello_due link.multicast) (hello_due link.unicast)) (unwrap_or link.txcost_due never) early))

  none_ticked : (moment : ℕ) (links : Links) → now < earliest moment (map (λ e. link_due e.1) links) → tick_of now links ≡ links
  unfolding tick_of
  none_ticked moment [] early = refl
  none_ticked moment (e ∷ es) early =
      rw (quiet e.1 (head_later moment (link_due e.1) (map (λ x. link_due x.1) es) early)) (ap (λ xs. e ∷ xs) (none_ticked (min moment (link_due e.1)) es early))

  none_gone : (moment : ℕ) (links : Links) → now < earliest moment (map (λ e. link_due e.1) links) → gone_of now links ≡ []
  unfolding gone_of
  none_gone moment [] early = refl
  none_gone moment (e ∷ es) early =
      rw (quiet e.1 (head_later moment (link_due e.1) (map (λ x. link_due x.1) es) early)) (none_gone (min moment (link_due e.1)) es early)

  none_expired : (moment : ℕ) (es : RouteEntries) → now < earliest moment (map (λ e. e.1.deadline) es) → expired now es ≡ es
  none_expired moment [] early = refl
  none_expired moment (e ∷ es) early =
      let later : now < e.1.deadline = head_later moment e.1.deadline (map (λ x. x.1.deadline) es) early in
      let waits : nat_le e.1.deadline now ≡ false = grind (arith, nat_tests) in
      rw waits (ap (λ xs. e ∷ xs) (none_expired (min moment e.1.deadline) es early))

  none_over : (moment : ℕ) (es : PendingRequests) → now < earliest moment (map (λ e. e.1.due) es) → list_any (λ e. is_due_request now e.1) es ≡ false
  none_over moment [] early = refl
  none_over moment (e ∷ es) early =
      let later : now < e.1.due = head_later moment e.1.due (map (λ x. x.1.due) es) early in
      let waits : nat_le e.1.due now ≡ false = grind (arith, nat_tests) in
      rw waits (none_over (min moment e.1.due) es early)

  none_collected : (moment : ℕ) (es : Sources) → now < earliest moment (map (λ e. e.1.due) es) → collected now es ≡ es
  none_collected moment [] early = refl
  none_collected moment (e ∷ es) early =
      let later : now < e.1.due = head_later moment e.1.due (map (λ x. x.1.due) es) early in
      let waits : nat_le e.1.due now ≡ false = grind (arith, nat_tests) in
      rw waits (ap (λ xs. e ∷ xs) (none_collected (min moment e.1.due) es early))

  -- ---- each part of a tick

  same_links : (moment : ℕ) (s : State) → now < earliest moment (map (λ e. link_due e.1) s.neighbours) → links_ticked now s ≡ s
  same_links moment s early = no_link_due now s (none_gone moment s.neighbours early) (none_ticked moment s.neighbours early)

  same_routes : (moment : ℕ) (s : State) → now < earliest moment (map (λ e. e.1.deadline) s.routes.entries) → routes_ticked now s ≡ s
  unfolding routes_ticked
  same_routes moment s early = ap (λ entries. with_entries entries s) (none_expired moment s.routes.entries early)

  same_sources : (moment : ℕ) (s : State) → now < earliest moment (source_dues s) → sources_ticked now s ≡ s
  unfolding sources_ticked
  same_sources moment s early = by s.collects early
    where
      by : (collects : Bool) → now < earliest moment (cond collects (map (λ e. e.1.due) s.sources) []) → cond collects (record s { sources = collected now s.sources }) s ≡ s
      by true later = ap (λ sources. record s { sources = sources }) (none_collected moment s.sources later)
      by false later = refl

  same : (s : State) → AreSelectionsInOrder s → AreCurrent s → now < earliest never (deadlines s) → ticked now s ≡ s
  unfolding ticked
  same s sorted current early =
      ap (λ t. rest (reselect_all now (routes_ticked now (reselect_all now t)))) (same_links first s links)
      ∙ ap (λ t. rest (reselect_all now (routes_ticked now t))) settled
      ∙ ap (λ t. rest (reselect_all now t)) (same_routes second s routes)
      ∙ ap rest settled
      ∙ ap (λ t. sources_ticked now (interfaces_ticked now t)) (no_request_due now s (none_over third s.requests requests))
      ∙ ap (sources_ticked now) (nothing_due now s (no_timers never s.interfaces interfaces))
      ∙ same_sources fourth s sources
    where
      rest : State → State
      rest t = sources_ticked now (interfaces_ticked now (requests_ticked now t))

      settled : reselect_all now s ≡ s
      settled = nothing_reselected now s sorted current

      is : List ℕ
      is = map interface_due s.interfaces

      ns : List ℕ
      ns = map (λ e. link_due e.1) s.neighbours

      rs : List ℕ
      rs = map (λ e. e.1.deadline) s.routes.entries

      qs : List ℕ
      qs = map (λ e. e.1.due) s.requests

      first : ℕ
      first = earliest never is

      second : ℕ
      second = earliest first ns

      third : ℕ
      third = earliest second rs

      fourth : ℕ
      fourth = earliest third qs

      whole : earliest never (deadlines s) ≡ earliest fourth (source_dues s)
      whole =
          earliest_both never is (ns ++ (rs ++ (qs ++ source_dues s))) ∙ earliest_both first ns (rs ++ (qs ++ source_dues s))
          ∙ earliest_both second rs (qs ++ source_dues s) ∙ earliest_both third qs (source_dues s)

      sources : now < earliest fourth (source_dues s)
      sources = subst (λ n. now < n) whole early

      requests : now < earliest third qs
      requests = omega (arith, sources, no_later fourth (source_dues s))

      routes : now < earliest second rs
      routes = omega (arith, requests, no_later third qs)

      links : now < earliest first ns
      links = omega (arith, routes, no_later second rs)

      interfaces : now < earliest never is
      interfaces = omega (arith, links, no_later first ns)

pub early_ticks : EarlyTicksChangeNothing
unfolding next_deadline
early_ticks now s sorted current early = same now s sorted current early

pub early : (s : State) (due : ℕ) → AreSelectionsInOrder s → AreCurrent s → due ≡ next_deadline s → (now : ℕ) → now < due → ticked now s ≡ s
early s due sorted current is now before = early_ticks now s sorted current (subst (λ n. now < n) is before)
