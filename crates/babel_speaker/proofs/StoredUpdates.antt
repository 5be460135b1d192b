-- An update is judged once it is stored and the route of its prefix selected again.
use Rattle.std.specs.Prelude.{◌≡◌, ℕ, Bool, true, false, List, Option, Some, None, if◌then◌else◌}
use Rattle.std.proofs.Common.{sym, ap, subst, ◌∙◌, true≢false}
use Rattle.babel_value.specs.declared.distances.Distance.{Distance}
use Rattle.babel_value.specs.declared.keys.Peer.{Peer}
use Rattle.babel_value.specs.Prefixes.{PrefixValue}
use Rattle.babel_sources.specs.Distances.{is_feasible}
use Rattle.babel_choice.specs.declared.entries.Selection.{Selection}
use Rattle.babel_state.specs.declared.notes.Verdict.TheVariants as verdicts
use Rattle.babel_state.specs.Hellos.{Step}
use Rattle.babel_state.specs.State.{State, selected_at}
use Rattle.babel_state.specs.Reselection.{UnfeasibleUpdate, select, follow_up, reselect}
use Rattle.babel_state.specs.Updates.{satisfy_request, handle_feasible, handle_unfeasible, judge}

pub reselected_stored : (now : ℕ) (cause : Option UnfeasibleUpdate) (prefix : PrefixValue) (s t u : State) (old new : Option Selection) →
    t ≡ select prefix s → old ≡ selected_at prefix s → new ≡ selected_at prefix t → u ≡ follow_up now cause prefix old new t → u ≡ reselect now cause prefix s
unfolding reselect
reselected_stored now cause prefix s t u old new is before after followed =
    let later : new ≡ selected_at prefix (select prefix s) = after ∙ ap (selected_at prefix) is in
    followed ∙ (λ i. follow_up now cause prefix (before i) (later i) (is i))

-- There is room for the route.
has_room : (full : Bool) (none some step : Step) → full ≡ false → step ≡ some → step ≡ (if full then none else some)
has_room true none some step is so = absurd (true≢false is)
has_room false none some step is so = so

module _ (now : ℕ) (peer : Peer) (prefix : PrefixValue) (router : List ℕ) (distance : Distance) (full : Bool) (none : Step) (s t u : State) (old new : Option Selection) where
  pub judged_unfeasible : (known : Option Distance) (pair : Distance) → full ≡ false → known ≡ Some pair → is_feasible (Some pair) distance ≡ false →
      t ≡ select prefix s → old ≡ selected_at prefix s → new ≡ selected_at prefix t → u ≡ follow_up now (Some (record { peer = peer; router = router })) prefix old new t →
      (u, verdicts.Unfeasible pair) ≡ (if full then none else judge now peer prefix router distance known s)
  judged_unfeasible known pair room is unfeasible selected before after followed =
      has_room full none (judge now peer prefix router distance known s) (u, verdicts.Unfeasible pair) room
      (subst (λ k. (u, verdicts.Unfeasible pair) ≡ judge now peer prefix router distance k s) (sym is) (by (is_feasible (Some pair) distance) unfeasible))
    where
      by : (b : Bool) → b ≡ false → (u, verdicts.Unfeasible pair) ≡ (if b then handle_feasible now prefix router distance.seqno s else handle_unfeasible now peer prefix router pair s)
      by true h = absurd (true≢false h)
      by false h =
          let same = reselected_stored now (Some (record { peer = peer; router = router })) prefix s t u old new selected before after followed in
          λ i. (same i, verdicts.Unfeasible pair)

  handled_feasible : (v : State) →
      t ≡ select prefix s → old ≡ selected_at prefix s → new ≡ selected_at prefix t → u ≡ follow_up now None prefix old new t →
      v ≡ satisfy_request (record { prefix = prefix; router = router }) distance.seqno u →
      (v, verdicts.Taken) ≡ handle_feasible now prefix router distance.seqno s
  handled_feasible v selected before after followed satisfied =
      let same = reselected_stored now None prefix s t u old new selected before after followed in
      let all = satisfied ∙ ap (satisfy_request (record { prefix = prefix; router = router }) distance.seqno) same in
      λ i. (all i, verdicts.Taken)

  pub judged_feasible : (known : Option Distance) (pair : Distance) (v : State) → full ≡ false → known ≡ Some pair → is_feasible (Some pair) distance ≡ true →
      t ≡ select prefix s → old ≡ selected_at prefix s → new ≡ selected_at prefix t → u ≡ follow_up now None prefix old new t →
      v ≡ satisfy_request (record { prefix = prefix; router = router }) distance.seqno u →
      (v, verdicts.Taken) ≡ (if full then none else judge now peer prefix router distance known s)
  judged_feasible known pair v room is feasible selected before after followed satisfied =
      has_room full none (judge now peer prefix router distance known s) (v, verdicts.Taken) room
      (subst (λ k. (v, verdicts.Taken) ≡ judge now peer prefix router distance k s) (sym is) (by (is_feasible (Some pair) distance) feasible))
    where
      by : (b : Bool) → b ≡ true → (v, verdicts.Taken) ≡ (if b then handle_feasible now prefix router distance.seqno s else handle_unfeasible now peer prefix router pair s)
      by true h = handled_feasible v selected before after followed satisfied
      by false h = absurd (true≢false (sym h))

  pub judged_new : (known : Option Distance) (v : State) → full ≡ false → known ≡ None →
      t ≡ select prefix s → old ≡ selected_at prefix s → new ≡ selected_at prefix t → u ≡ follow_up now None prefix old new t →
      v ≡ satisfy_request (record { prefix = prefix; router = router }) distance.seqno u →
      (v, verdicts.Taken) ≡ (if full then none else judge now peer prefix router distance known s)
  judged_new known v room is selected before after followed satisfied =
      has_room full none (judge now peer prefix router distance known s) (v, verdicts.Taken) room
      (subst (λ k. (v, verdicts.Taken) ≡ judge now peer prefix router distance k s) (sym is) (handled_feasible v selected before after followed satisfied))
