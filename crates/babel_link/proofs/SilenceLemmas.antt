-- When a tick removes a neighbour, what it makes of its txcost, and that it makes no history up.
use Rattle.std.proofs.Common.{◌≡◌, ◌↔◌, ℕ, zero, suc, leb, Bool, true, false, cond, ◌||◌, List, [], ◌∷◌, take, Option, Some, None, IsNone, refl, sym, ap, subst, ◌∙◌}
use Rattle.std.specs.Bool.{⊤}
use Rattle.std.specs.List.{list_any}
use Rattle.std.specs.Option.{option_map, option_map_or, option_and_then}
use Rattle.babel_link.specs.declared.links.History.{History}
use Rattle.babel_link.specs.declared.links.Link.{Link}
use Rattle.babel_link.specs.Histories.{newest, is_up, has_received, missed_marks}
use Rattle.babel_link.specs.Links.{fired_history, fired_link, unless_silent, expired_link, ticked_link, is_heard, is_up_history, with_history, is_txcost_due, FallsSilent, again}

none_in_front : (n : ℕ) (marks : List Bool) → list_any (λ mark. mark) marks ≡ false → list_any (λ mark. mark) (take n marks) ≡ false
none_in_front zero marks none = refl
none_in_front (suc n) [] none = refl
none_in_front (suc n) (true ∷ marks) none = cc
none_in_front (suc n) (false ∷ marks) none = none_in_front n marks none

-- A test that a history's marks fail, they fail after its deadline fired, if no missed Hello makes marks pass it.
fired_without : (P : List Bool → Bool) → ((marks : List Bool) → P marks ≡ false → P (newest (false ∷ marks)) ≡ false) → (now : ℕ) (h f : History) → fired_history now h ≡ Some f → P h.marks.marks ≡ false → P f.marks.marks ≡ false
unfolding fired_history missed_marks
fired_without P missed now h f fires without =
    elim h.timer as (λ timer. option_and_then (λ t. cond (leb t.due now) (Some (record { marks = missed_marks h.marks; timer = Some (again now t) })) None) timer ≡ Some f → P f.marks.marks ≡ false) [
      | None ↦ λ e. cc
      | Some t ↦ elim (leb t.due now) as (λ b. cond b (Some (record { marks = missed_marks h.marks; timer = Some (again now t) })) None ≡ Some f → P f.marks.marks ≡ false) [
        | false ↦ λ e. cc
        | true ↦ λ e. ap (λ (x : Option History). option_map_or (λ y. P y.marks.marks) x false) (sym e) ∙ missed h.marks.marks without
      ]
    ] fires

-- A history that remembers no Hello remembers none after its deadline fired.
stays_silent : (now : ℕ) (h f : History) → fired_history now h ≡ Some f → is_heard (Some h) ≡ false → is_heard (Some f) ≡ false
unfolding has_received
stays_silent = fired_without has_received (λ marks silent. none_in_front 15 marks silent)

-- One that isn't up isn't up after it.
not_up : (marks : List Bool) → is_up marks ≡ false → is_up (newest (false ∷ marks)) ≡ false
unfolding is_up
not_up [] down = refl
not_up (a ∷ []) down = by a
  where
    by : (a : Bool) → is_up (false ∷ a ∷ []) ≡ false
    by true = refl
    by false = refl
not_up (a ∷ b ∷ marks) down = by a b marks down
  where
    by : (a b : Bool) (marks : List Bool) → is_up (a ∷ b ∷ marks) ≡ false → is_up (false ∷ a ∷ b ∷ []) ≡ false
    by true true [] down = down
    by true true (true ∷ marks) down = cc
    by true true (false ∷ marks) down = cc
    by true false marks down = refl
    by false true marks down = refl
    by false false marks down = refl

stays_down : (now : ℕ) (history : Option History) (f : History) → option_and_then (fired_history now) history ≡ Some f → is_up_history history ≡ false → is_up_history (Some f) ≡ false
stays_down now None f fires down = cc
stays_down now (Some h) f fires down = fired_without is_up not_up now h f fires down

-- A neighbour goes exactly if no Hello is remembered after the deadlines that fired.
plain : (E : Link → Link) (l : Link) (heard : Bool) → IsNone (option_map E (cond heard (Some l) None)) ↔ ((true ≡ true) × (heard ≡ false))
plain E l true = ((λ e. cc), (λ s. let bad : true ≡ false = s.1 in cc))
plain E l false = ((λ e. (refl, refl)), (λ s. refl))

one : (P : Link → Option Link) (E : Link → Link) (l : Link) (heard : Bool) → P l ≡ Some l → IsNone (option_map E (option_and_then P (cond heard (Some l) None))) ↔ ((true ≡ true) × (heard ≡ false))
one P E l true p = rw p ((λ e. cc), (λ s. let bad : true ≡ false = s.1 in cc))
one P E l false p = ((λ e. (refl, refl)), (λ s. refl))

both : (P : Link → Option Link) (E : Link → Link) (l k : Link) (first second later : Bool) → (second ≡ false → later ≡ false) → P l ≡ cond (first || later) (Some k) None → IsNone (option_map E (option_and_then P (cond (first || second) (Some l) None))) ↔ ((true ≡ true) × ((first || later) ≡ false))
both P E l k true second later silent p = rw p ((λ e. cc), (λ s. let bad : true ≡ false = s.1 in cc))
both P E l k false true true silent p = rw p ((λ e. cc), (λ s. let bad : true ≡ false = s.1 in cc))
both P E l k false true false silent p = rw p ((λ e. (refl, refl)), (λ s. refl))
both P E l k false false true silent p = let bad : true ≡ false = silent refl in cc
both P E l k false false false silent p = ((λ e. (refl, refl)), (λ s. refl))

module _ (now : ℕ) (link : Link) where
  none_fired : option_and_then (fired_history now) link.multicast ≡ None → option_and_then (fired_history now) link.unicast ≡ None → IsNone (ticked_link now link) ↔ FallsSilent now link
  unfolding ticked_link fired_link
  none_fired m u = rw (m, u) ((λ e. cc), (λ s. let bad : false ≡ true = s.0 in cc))

  unicast_fired : (f : History) → option_and_then (fired_history now) link.multicast ≡ None → option_and_then (fired_history now) link.unicast ≡ Some f → IsNone (ticked_link now link) ↔ FallsSilent now link
  unfolding ticked_link fired_link unless_silent
  unicast_fired f m u = rw (m, u) (plain (expired_link now) (record link { unicast = Some f }) (is_heard link.multicast || is_heard (Some f)))

  multicast_fired : (f : History) → option_and_then (fired_history now) link.multicast ≡ Some f → option_and_then (fired_history now) link.unicast ≡ None → IsNone (ticked_link now link) ↔ FallsSilent now link
  unfolding ticked_link fired_link unless_silent
  multicast_fired f m u =
      rw (m, u) (one (fired_link now true) (expired_link now) (record link { multicast = Some f }) (is_heard (Some f) || is_heard link.unicast) (rw u refl))

  both_fired : (f g : History) → option_and_then (fired_history now) link.multicast ≡ Some f → option_and_then (fired_history now) link.unicast ≡ Some g → IsNone (ticked_link now link) ↔ FallsSilent now link
  unfolding ticked_link fired_link unless_silent
  both_fired f g m u =
      let silent : is_heard link.unicast ≡ false → is_heard (Some g) ≡ false =
      elim link.unicast as (λ x. option_and_then (fired_history now) x ≡ Some g → is_heard x ≡ false → is_heard (Some g) ≡ false) [
        | None ↦ λ e s. cc
        | Some h ↦ λ e s. stays_silent now h g e s
      ] u in
      rw (m, u) (both (fired_link now true) (expired_link now) (record link { multicast = Some f }) (record link { multicast = Some f; unicast = Some g }) (is_heard (Some f)) (is_heard link.unicast) (is_heard (Some g)) silent (rw u refl))

  pub gone_if_silent : IsNone (ticked_link now link) ↔ FallsSilent now link
  gone_if_silent =
      elim (option_and_then (fired_history now) link.multicast) as (λ m. option_and_then (fired_history now) link.multicast ≡ m → IsNone (ticked_link now link) ↔ FallsSilent now link) [
        | None ↦ λ m. elim (option_and_then (fired_history now) link.unicast) as (λ u. option_and_then (fired_history now) link.unicast ≡ u → IsNone (ticked_link now link) ↔ FallsSilent now link) [
          | None ↦ λ u. none_fired m u
          | Some f ↦ λ u. unicast_fired f m u
        ] refl
        | Some f ↦ λ m. elim (option_and_then (fired_history now) link.unicast) as (λ u. option_and_then (fired_history now) link.unicast ≡ u → IsNone (ticked_link now link) ↔ FallsSilent now link) [
          | None ↦ λ u. multicast_fired f m u
          | Some g ↦ λ u. both_fired f g m u
        ] refl
      ] refl

-- A history of the link is up.
abbrev pub is_up_link : Link → Bool
is_up_link link = is_up_history link.multicast || is_up_history link.unicast

neither : (a b c d : Bool) → (a ≡ false → c ≡ false) → (b ≡ false → d ≡ false) → (a || b) ≡ false → (c || d) ≡ false
neither true b c d p q none = cc
neither false true c d p q none = cc
neither false false c d p q none = rw (p refl, q refl) refl

-- The deadlines of Hellos leave the txcost and its deadline, and make no history up.
abbrev OnlyLosesHellos : Link → Option Link → Type 0
OnlyLosesHellos link None = ⊤
OnlyLosesHellos link (Some after) = (after.txcost ≡ link.txcost) × (after.txcost_due ≡ link.txcost_due) × (is_up_link link ≡ false → is_up_link after ≡ false)

fired_loses : (now : ℕ) (unicast : Bool) (link : Link) → OnlyLosesHellos link (fired_link now unicast link)
unfolding fired_link unless_silent
fired_loses now true link =
    elim (option_and_then (fired_history now) link.unicast) as (λ f. option_and_then (fired_history now) link.unicast ≡ f → OnlyLosesHellos link (option_map_or (λ h. unless_silent (with_history true (Some h) link)) f (Some link))) [
      | None ↦ λ e. (refl, refl, λ down. down)
      | Some h ↦ λ e. elim (is_heard link.multicast || is_heard (Some h)) as (λ b. OnlyLosesHellos link (cond b (Some (record link { unicast = Some h })) None)) [
        | true ↦ (refl, refl, neither (is_up_history link.multicast) (is_up_history link.unicast) _ _ (λ down. down) (stays_down now link.unicast h e))
        | false ↦ tt
      ]
    ] refl
fired_loses now false link =
    elim (option_and_then (fired_history now) link.multicast) as (λ f. option_and_then (fired_history now) link.multicast ≡ f → OnlyLosesHellos link (option_map_or (λ h. unless_silent (with_history false (Some h) link)) f (Some link))) [
      | None ↦ λ e. (refl, refl, λ down. down)
      | Some h ↦ λ e. elim (is_heard (Some h) || is_heard link.unicast) as (λ b. OnlyLosesHellos link (cond b (Some (record link { multicast = Some h })) None)) [
        | true ↦ (refl, refl, neither (is_up_history link.multicast) (is_up_history link.unicast) _ _ (stays_down now link.multicast h e) (λ down. down))
        | false ↦ tt
      ]
    ] refl

abbrev txcost_after : ℕ → Link → ℕ
txcost_after now link = cond (is_txcost_due now link) 65535 link.txcost

-- What a tick makes of a link that it keeps.
pub record IsTickedFrom (now : ℕ) (link after : Link) : Type 0 where
  pub txcost : after.txcost ≡ txcost_after now link
  pub down : is_up_link link ≡ false → is_up_link after ≡ false

expired_from : (now : ℕ) (link : Link) → IsTickedFrom now link (expired_link now link)
unfolding expired_link
expired_from now link =
    elim (is_txcost_due now link) as (λ b. is_txcost_due now link ≡ b → IsTickedFrom now link (expired_link now link)) [
      | true ↦ λ e. rw e (record { txcost = rw e refl; down = λ down. down })
      | false ↦ λ e. rw e (record { txcost = rw e refl; down = λ down. down })
    ] refl

same_after : (now : ℕ) (link other : Link) → OnlyLosesHellos link (Some other) → txcost_after now other ≡ txcost_after now link
same_after now link other loses = rw (loses.0, loses.1) refl

pub ticked_from : (now : ℕ) (link after : Link) → ticked_link now link ≡ Some after → IsTickedFrom now link after
unfolding ticked_link
ticked_from now link after ticked =
    elim (fired_link now false link) as (λ f. OnlyLosesHellos link f → option_map (expired_link now) (option_and_then (fired_link now true) f) ≡ Some after → IsTickedFrom now link after) [
      | None ↦ λ k e. cc
      | Some l ↦ λ k e. elim (fired_link now true l) as (λ g. OnlyLosesHellos l g → option_map (expired_link now) g ≡ Some after → IsTickedFrom now link after) [
        | None ↦ λ j d. cc
        | Some x ↦ λ j d.
            let is : expired_link now x ≡ after = cc in
            let last = expired_from now x in
            subst (IsTickedFrom now link) is (record {
              txcost = last.txcost ∙ same_after now l x j ∙ same_after now link l k;
              down = λ down. last.down (j.2 (k.2 down));
            })
      ] (fired_loses now true l) e
    ] (fired_loses now false link) ticked
