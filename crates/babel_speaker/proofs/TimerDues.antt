-- The least moment of the timers of the interfaces.
use Rattle.std.proofs.Common.{◌≡◌, ℕ, zero, suc, ◌<◌, ◌≤◌, false, List, [], ◌∷◌, map, min, Option, Some, None, refl, arith}
use Rattle.std.specs.Prelude.{slice_set}
use Rattle.std.specs.List.{list_any}
use Rattle.std.proofs.lemmas.Bool.Decides.{nat_tests}
use Rattle.std.proofs.lemmas.List.Elements.{All-nil, All-cons, All-head, All-tail, All-weaker}
use Rattle.std.proofs.Math.Nat.{min-le_left, min-le_right}
use Rattle.babel_state.specs.declared.interfaces.InterfaceEntry.{InterfaceEntry}
use Rattle.babel_state.specs.Ticks.{is_due}
use Rattle.babel_speaker.specs.Deadlines.{earliest, timer_due, interface_due}
use Rattle.babel_speaker.specs.DueTimers.{has_due_timer, AreTimersDueFrom}
use Rattle.babel_speaker.proofs.Earliest.{no_later}

pub first_later : (now a b : ℕ) → now < min a b → now < a
first_later now a b early = omega (arith, early, min-le_left a b)

pub second_later : (now a b : ℕ) → now < min a b → now < b
second_later now a b early = omega (arith, early, min-le_right a b)

-- ---- no timer is due before the moment of the interface

module _ (now : ℕ) where
  timer_waits : (timer : Option ℕ) → now < timer_due timer → is_due now timer ≡ false
  timer_waits None early = absurd (omega (arith, early))
  timer_waits (Some due) early = grind (arith, nat_tests)

  pub no_timer : (i : InterfaceEntry) → now < interface_due i → has_due_timer now i ≡ false
  no_timer i early =
      let first : now < min (timer_due i.hello_due) (timer_due i.ihu_due) = first_later now (min (timer_due i.hello_due) (timer_due i.ihu_due)) (timer_due i.update_due) early in
      rw (
        timer_waits i.hello_due (first_later now (timer_due i.hello_due) (timer_due i.ihu_due) first),
        timer_waits i.ihu_due (second_later now (timer_due i.hello_due) (timer_due i.ihu_due) first),
        timer_waits i.update_due (second_later now (min (timer_due i.hello_due) (timer_due i.ihu_due)) (timer_due i.update_due) early),
      ) refl

  pub none_due : (due : ℕ) (is : List InterfaceEntry) → now < due → AreTimersDueFrom due is → list_any (has_due_timer now) is ≡ false
  none_due due [] early all = refl
  none_due due (i ∷ is) early all =
      let later : now < interface_due i = omega (arith, early, All-head (λ x. due ≤ interface_due x) i is all) in
      rw (no_timer i later) (none_due due is early (All-tail (λ x. due ≤ interface_due x) i is all))

-- ---- a moment before which none is due

pub due_from_earliest : (moment : ℕ) (is : List InterfaceEntry) → AreTimersDueFrom (earliest moment (map interface_due is)) is
due_from_earliest moment [] = All-nil (λ i. moment ≤ interface_due i)
due_from_earliest moment (i ∷ is) =
    let least = min moment (interface_due i) in
    let whole = earliest least (map interface_due is) in
    All-cons (λ x. whole ≤ interface_due x) i is (omega (arith, no_later least (map interface_due is), min-le_right moment (interface_due i))) (due_from_earliest least is)

due_earlier : (due moment : ℕ) (is : List InterfaceEntry) → moment ≤ due → AreTimersDueFrom due is → AreTimersDueFrom moment is
due_earlier due moment is before all = All-weaker (λ i. due ≤ interface_due i) (λ i. moment ≤ interface_due i) (λ i later. omega arith) is all

pub due_set : (due moment : ℕ) (is : List InterfaceEntry) (k : ℕ) (i : InterfaceEntry) → moment ≤ due → moment ≤ interface_due i → AreTimersDueFrom due is → AreTimersDueFrom moment (slice_set is k i)
due_set due moment [] k i before one all = All-nil (λ x. moment ≤ interface_due x)
due_set due moment (x ∷ xs) zero i before one all =
    All-cons (λ y. moment ≤ interface_due y) i xs one (due_earlier due moment xs before (All-tail (λ y. due ≤ interface_due y) x xs all))
due_set due moment (x ∷ xs) (suc k) i before one all =
    All-cons (λ y. moment ≤ interface_due y) x (slice_set xs k i) (omega (arith, before, All-head (λ y. due ≤ interface_due y) x xs all))
    (due_set due moment xs k i before one (All-tail (λ y. due ≤ interface_due y) x xs all))
