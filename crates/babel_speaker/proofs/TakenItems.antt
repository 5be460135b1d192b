-- Each datagram takes at least one pending item.
use Rattle.std.proofs.Common.{◌≡◌, ◌≤◌, ◌<◌, ℕ, suc, true≢false, List, [], ◌∷◌, length, Option, Some, None, is_some, refl, sym, ap, ◌∙◌, arith}
use Rattle.std.specs.Option.{option_map_or}
use Rattle.babel_state.specs.declared.items.Item.{Item}
use Rattle.babel_state.specs.declared.items.Target.{Target}
use Rattle.babel_state.specs.NextDatagram.{Fits, Draft, draft_with, without_first, drafted, next_datagram}
use Rattle.babel_state.specs.OutgoingMessages.{outgoing}
use Rattle.babel_speaker.specs.PendingItems.{DatagramsTakeItems}

abbrev left : Draft → ℕ
left b = length b.state.pending.items

-- The draft after the first item, if that doesn't stay.
abbrev after_first : ℕ → Fits → List Item → Draft → Option Draft → Draft
after_first now fits xs b c = option_map_or (λ c. drafted now fits xs (without_first xs c)) c b

by_first : (now : ℕ) (fits : Fits) (xs : List Item) (b : Draft) (c : Option Draft) → length b.state.pending.items ≤ suc (length xs) →
    ((c : Draft) → left (drafted now fits xs (without_first xs c)) ≤ length xs) → left (after_first now fits xs b c) ≤ suc (length xs)
by_first now fits xs b None stays go = stays
by_first now fits xs b (Some c) stays go = omega (arith, go c)

most_left : (now : ℕ) (fits : Fits) (xs : List Item) (b : Draft) → b.state.pending.items ≡ xs → left (drafted now fits xs b) ≤ length xs
most_left now fits [] b is = omega (arith, ap length is)
most_left now fits (x ∷ xs) b is =
    by_first now fits xs b (draft_with now fits b (outgoing b.state x)) (omega (arith, ap length is)) (λ c. most_left now fits xs (without_first xs c) refl)

taken_by_first : (now : ℕ) (fits : Fits) (xs : List Item) (b : Draft) (c : Option Draft) → b.target ≡ None → (target : Target) →
    (after_first now fits xs b c).target ≡ Some target → left (after_first now fits xs b c) < suc (length xs)
taken_by_first now fits xs b None none target is = absurd (true≢false (ap is_some (sym is ∙ none)))
taken_by_first now fits xs b (Some c) none target is = omega (arith, most_left now fits xs (without_first xs c) refl)

taken : (now : ℕ) (fits : Fits) (xs : List Item) (b : Draft) → b.target ≡ None → (target : Target) → (drafted now fits xs b).target ≡ Some target →
    left (drafted now fits xs b) < length xs
taken now fits [] b none target is = absurd (true≢false (ap is_some (sym is ∙ none)))
taken now fits (x ∷ xs) b none target is = taken_by_first now fits xs b (draft_with now fits b (outgoing b.state x)) none target is

pub datagrams_take : DatagramsTakeItems
unfolding next_datagram
datagrams_take now fits s target is = taken now fits s.pending.items (record { state = s; target = None; messages = [] }) refl target is
