-- A text with an event's word spells no event, if what follows the word cannot be read.
use Rattle.std.proofs.Common.{◌≡◌, ℕ, List, Option, Some, None, false, codes, refl, sym, ◌∙◌}
use Rattle.std.proofs.lemmas.Bool.{both_ways}
use Rattle.std.proofs.lemmas.Slice.Eq.{bytes_eq-Decides}
use Rattle.std.specs.Str.{bytes_eq}
use Rattle.babel_machine.specs.declared.events.Event.{Event}
use Rattle.babel_machine.specs.declared.events.Event.TheVariants as events
use Rattle.babel_value.specs.Prefixes.{PrefixValue}
use Rattle.babel_text.specs.Readings.{Reads}
use Rattle.babel_text.specs.Numbers.{IsNumberText}
use Rattle.babel_text.specs.Prefixes.{IsPrefixText}
use Rattle.babel_config.specs.Events.{IsAfterWord, IsPair, IsLong, IsEventText}
use Rattle.babel_text.specs.Fields.{HasBlank, before_blank, after_blank}

module _ {A B : Type 0} (IsWord : List ℕ → A → Type 0) (IsRest : List ℕ → B → Type 0) (text word rest : List ℕ) where
  pub pair : (a : A) (b : B) → HasBlank text → word ≡ before_blank text → rest ≡ after_blank text → IsWord word a → IsRest rest b → IsPair IsWord IsRest text (a, b)
  pair a b blank is follows h k = (blank, rw (sym is) h, rw (sym follows) k)

  pub no_pair : rest ≡ after_blank text → ((b : B) → ¬ (IsRest rest b)) → (p : A × B) → ¬ (IsPair IsWord IsRest text p)
  no_pair follows none p h = none p.1 (rw follows h.2)

pub after_word : {A : Type 0} (IsRest : List ℕ → A → Type 0) (text rest : List ℕ) → HasBlank text → rest ≡ after_blank text → (read : Option A) → Reads IsRest rest read → Reads (IsAfterWord IsRest) text read
after_word IsRest text rest blank follows None none = λ value h. none value (rw follows h.1)
after_word IsRest text rest blank follows (Some value) some = (blank, rw (sym follows) some)

apart : (a b : List ℕ) → bytes_eq a b ≡ false → a ≡ b → ⊥
apart a b other same = both_ways (bytes_eq a b) other ((bytes_eq-Decides a b).1 same)

module _ (text word rest : List ℕ) (is : word ≡ before_blank text) (follows : rest ≡ after_blank text) where
  pub no_tick : word ≡ codes "tick" → ((p : ℕ × ℕ) → ¬ (IsPair IsLong IsLong rest p)) → (event : Event) → ¬ (IsEventText text event)
  no_tick same none (events.Tick node now) h = none (node, now) (rw follows h.2)
  no_tick same none (events.Emit node now) h = apart (codes "tick") (codes "emit") refl (sym same ∙ is ∙ h.1)
  no_tick same none (events.Deliver datagram node iface now) h = apart (codes "tick") (codes "deliver") refl (sym same ∙ is ∙ h.1)
  no_tick same none (events.SetCost node iface cost) h = apart (codes "tick") (codes "cost") refl (sym same ∙ is ∙ h.1)
  no_tick same none (events.Raise node) h = apart (codes "tick") (codes "raise") refl (sym same ∙ is ∙ h.1)
  no_tick same none (events.RequestSeqnos node now) h = apart (codes "tick") (codes "request") refl (sym same ∙ is ∙ h.1)
  no_tick same none (events.LoseLinks node iface now) h = apart (codes "tick") (codes "lose") refl (sym same ∙ is ∙ h.1)
  no_tick same none (events.GroupItems node) h = apart (codes "tick") (codes "group") refl (sym same ∙ is ∙ h.1)
  no_tick same none (events.Announce node prefix) h = apart (codes "tick") (codes "announce") refl (sym same ∙ is ∙ h.1)
  no_tick same none (events.Withdraw node prefix) h = apart (codes "tick") (codes "withdraw") refl (sym same ∙ is ∙ h.1)
  no_tick same none (events.Restart node now) h = apart (codes "tick") (codes "restart") refl (sym same ∙ is ∙ h.1)

  pub no_emit : word ≡ codes "emit" → ((p : ℕ × ℕ) → ¬ (IsPair IsLong IsLong rest p)) → (event : Event) → ¬ (IsEventText text event)
  no_emit same none (events.Tick node now) h = apart (codes "emit") (codes "tick") refl (sym same ∙ is ∙ h.1)
  no_emit same none (events.Emit node now) h = none (node, now) (rw follows h.2)
  no_emit same none (events.Deliver datagram node iface now) h = apart (codes "emit") (codes "deliver") refl (sym same ∙ is ∙ h.1)
  no_emit same none (events.SetCost node iface cost) h = apart (codes "emit") (codes "cost") refl (sym same ∙ is ∙ h.1)
  no_emit same none (events.Raise node) h = apart (codes "emit") (codes "raise") refl (sym same ∙ is ∙ h.1)
  no_emit same none (events.RequestSeqnos node now) h = apart (codes "emit") (codes "request") refl (sym same ∙ is ∙ h.1)
  no_emit same none (events.LoseLinks node iface now) h = apart (codes "emit") (codes "lose") refl (sym same ∙ is ∙ h.1)
  no_emit same none (events.GroupItems node) h = apart (codes "emit") (codes "group") refl (sym same ∙ is ∙ h.1)
  no_emit same none (events.Announce node prefix) h = apart (codes "emit") (codes "announce") refl (sym same ∙ is ∙ h.1)
  no_emit same none (events.Withdraw node prefix) h = apart (codes "emit") (codes "withdraw") refl (sym same ∙ is ∙ h.1)
  no_emit same none (events.Restart node now) h = apart (codes "emit") (codes "restart") refl (sym same ∙ is ∙ h.1)

  pub no_deliver : word ≡ codes "deliver" → ((p : ℕ × (ℕ × (ℕ × ℕ))) → ¬ (IsPair IsLong (IsPair IsLong (IsPair (IsNumberText 8) IsLong)) rest p)) → (event : Event) → ¬ (IsEventText text event)
  no_deliver same none (events.Tick node now) h = apart (codes "deliver") (codes "tick") refl (sym same ∙ is ∙ h.1)
  no_deliver same none (events.Emit node now) h = apart (codes "deliver") (codes "emit") refl (sym same ∙ is ∙ h.1)
  no_deliver same none (events.Deliver datagram node iface now) h = none (datagram, (node, (iface, now))) (rw follows h.2)
  no_deliver same none (events.SetCost node iface cost) h = apart (codes "deliver") (codes "cost") refl (sym same ∙ is ∙ h.1)
  no_deliver same none (events.Raise node) h = apart (codes "deliver") (codes "raise") refl (sym same ∙ is ∙ h.1)
  no_deliver same none (events.RequestSeqnos node now) h = apart (codes "deliver") (codes "request") refl (sym same ∙ is ∙ h.1)
  no_deliver same none (events.LoseLinks node iface now) h = apart (codes "deliver") (codes "lose") refl (sym same ∙ is ∙ h.1)
  no_deliver same none (events.GroupItems node) h = apart (codes "deliver") (codes "group") refl (sym same ∙ is ∙ h.1)
  no_deliver same none (events.Announce node prefix) h = apart (codes "deliver") (codes "announce") refl (sym same ∙ is ∙ h.1)
  no_deliver same none (events.Withdraw node prefix) h = apart (codes "deliver") (codes "withdraw") refl (sym same ∙ is ∙ h.1)
  no_deliver same none (events.Restart node now) h = apart (codes "deliver") (codes "restart") refl (sym same ∙ is ∙ h.1)

  pub no_cost : word ≡ codes "cost" → ((p : ℕ × (ℕ × ℕ)) → ¬ (IsPair IsLong (IsPair (IsNumberText 8) (IsNumberText 16)) rest p)) → (event : Event) → ¬ (IsEventText text event)
  no_cost same none (events.Tick node now) h = apart (codes "cost") (codes "tick") refl (sym same ∙ is ∙ h.1)
  no_cost same none (events.Emit node now) h = apart (codes "cost") (codes "emit") refl (sym same ∙ is ∙ h.1)
  no_cost same none (events.Deliver datagram node iface now) h = apart (codes "cost") (codes "deliver") refl (sym same ∙ is ∙ h.1)
  no_cost same none (events.SetCost node iface cost) h = none (node, (iface, cost)) (rw follows h.2)
  no_cost same none (events.Raise node) h = apart (codes "cost") (codes "raise") refl (sym same ∙ is ∙ h.1)
  no_cost same none (events.RequestSeqnos node now) h = apart (codes "cost") (codes "request") refl (sym same ∙ is ∙ h.1)
  no_cost same none (events.LoseLinks node iface now) h = apart (codes "cost") (codes "lose") refl (sym same ∙ is ∙ h.1)
  no_cost same none (events.GroupItems node) h = apart (codes "cost") (codes "group") refl (sym same ∙ is ∙ h.1)
  no_cost same none (events.Announce node prefix) h = apart (codes "cost") (codes "announce") refl (sym same ∙ is ∙ h.1)
  no_cost same none (events.Withdraw node prefix) h = apart (codes "cost") (codes "withdraw") refl (sym same ∙ is ∙ h.1)
  no_cost same none (events.Restart node now) h = apart (codes "cost") (codes "restart") refl (sym same ∙ is ∙ h.1)

  pub no_request : word ≡ codes "request" → ((p : ℕ × ℕ) → ¬ (IsPair IsLong IsLong rest p)) → (event : Event) → ¬ (IsEventText text event)
  no_request same none (events.Tick node now) h = apart (codes "request") (codes "tick") refl (sym same ∙ is ∙ h.1)
  no_request same none (events.Emit node now) h = apart (codes "request") (codes "emit") refl (sym same ∙ is ∙ h.1)
  no_request same none (events.Deliver datagram node iface now) h = apart (codes "request") (codes "deliver") refl (sym same ∙ is ∙ h.1)
  no_request same none (events.SetCost node iface cost) h = apart (codes "request") (codes "cost") refl (sym same ∙ is ∙ h.1)
  no_request same none (events.Raise node) h = apart (codes "request") (codes "raise") refl (sym same ∙ is ∙ h.1)
  no_request same none (events.RequestSeqnos node now) h = none (node, now) (rw follows h.2)
  no_request same none (events.LoseLinks node iface now) h = apart (codes "request") (codes "lose") refl (sym same ∙ is ∙ h.1)
  no_request same none (events.GroupItems node) h = apart (codes "request") (codes "group") refl (sym same ∙ is ∙ h.1)
  no_request same none (events.Announce node prefix) h = apart (codes "request") (codes "announce") refl (sym same ∙ is ∙ h.1)
  no_request same none (events.Withdraw node prefix) h = apart (codes "request") (codes "withdraw") refl (sym same ∙ is ∙ h.1)
  no_request same none (events.Restart node now) h = apart (codes "request") (codes "restart") refl (sym same ∙ is ∙ h.1)

  pub no_lose : word ≡ codes "lose" → ((p : ℕ × (ℕ × ℕ)) → ¬ (IsPair IsLong (IsPair (IsNumberText 8) IsLong) rest p)) → (event : Event) → ¬ (IsEventText text event)
  no_lose same none (events.Tick node now) h = apart (codes "lose") (codes "tick") refl (sym same ∙ is ∙ h.1)
  no_lose same none (events.Emit node now) h = apart (codes "lose") (codes "emit") refl (sym same ∙ is ∙ h.1)
  no_lose same none (events.Deliver datagram node iface now) h = apart (codes "lose") (codes "deliver") refl (sym same ∙ is ∙ h.1)
  no_lose same none (events.SetCost node iface cost) h = apart (codes "lose") (codes "cost") refl (sym same ∙ is ∙ h.1)
  no_lose same none (events.Raise node) h = apart (codes "lose") (codes "raise") refl (sym same ∙ is ∙ h.1)
  no_lose same none (events.RequestSeqnos node now) h = apart (codes "lose") (codes "request") refl (sym same ∙ is ∙ h.1)
  no_lose same none (events.LoseLinks node iface now) h = none (node, (iface, now)) (rw follows h.2)
  no_lose same none (events.GroupItems node) h = apart (codes "lose") (codes "group") refl (sym same ∙ is ∙ h.1)
  no_lose same none (events.Announce node prefix) h = apart (codes "lose") (codes "announce") refl (sym same ∙ is ∙ h.1)
  no_lose same none (events.Withdraw node prefix) h = apart (codes "lose") (codes "withdraw") refl (sym same ∙ is ∙ h.1)
  no_lose same none (events.Restart node now) h = apart (codes "lose") (codes "restart") refl (sym same ∙ is ∙ h.1)

  pub no_announce : word ≡ codes "announce" → ((p : ℕ × PrefixValue) → ¬ (IsPair IsLong IsPrefixText rest p)) → (event : Event) → ¬ (IsEventText text event)
  no_announce same none (events.Tick node now) h = apart (codes "announce") (codes "tick") refl (sym same ∙ is ∙ h.1)
  no_announce same none (events.Emit node now) h = apart (codes "announce") (codes "emit") refl (sym same ∙ is ∙ h.1)
  no_announce same none (events.Deliver datagram node iface now) h = apart (codes "announce") (codes "deliver") refl (sym same ∙ is ∙ h.1)
  no_announce same none (events.SetCost node iface cost) h = apart (codes "announce") (codes "cost") refl (sym same ∙ is ∙ h.1)
  no_announce same none (events.Raise node) h = apart (codes "announce") (codes "raise") refl (sym same ∙ is ∙ h.1)
  no_announce same none (events.RequestSeqnos node now) h = apart (codes "announce") (codes "request") refl (sym same ∙ is ∙ h.1)
  no_announce same none (events.LoseLinks node iface now) h = apart (codes "announce") (codes "lose") refl (sym same ∙ is ∙ h.1)
  no_announce same none (events.GroupItems node) h = apart (codes "announce") (codes "group") refl (sym same ∙ is ∙ h.1)
  no_announce same none (events.Announce node prefix) h = none (node, prefix) (rw follows h.2)
  no_announce same none (events.Withdraw node prefix) h = apart (codes "announce") (codes "withdraw") refl (sym same ∙ is ∙ h.1)
  no_announce same none (events.Restart node now) h = apart (codes "announce") (codes "restart") refl (sym same ∙ is ∙ h.1)

  pub no_withdraw : word ≡ codes "withdraw" → ((p : ℕ × PrefixValue) → ¬ (IsPair IsLong IsPrefixText rest p)) → (event : Event) → ¬ (IsEventText text event)
  no_withdraw same none (events.Tick node now) h = apart (codes "withdraw") (codes "tick") refl (sym same ∙ is ∙ h.1)
  no_withdraw same none (events.Emit node now) h = apart (codes "withdraw") (codes "emit") refl (sym same ∙ is ∙ h.1)
  no_withdraw same none (events.Deliver datagram node iface now) h = apart (codes "withdraw") (codes "deliver") refl (sym same ∙ is ∙ h.1)
  no_withdraw same none (events.SetCost node iface cost) h = apart (codes "withdraw") (codes "cost") refl (sym same ∙ is ∙ h.1)
  no_withdraw same none (events.Raise node) h = apart (codes "withdraw") (codes "raise") refl (sym same ∙ is ∙ h.1)
  no_withdraw same none (events.RequestSeqnos node now) h = apart (codes "withdraw") (codes "request") refl (sym same ∙ is ∙ h.1)
  no_withdraw same none (events.LoseLinks node iface now) h = apart (codes "withdraw") (codes "lose") refl (sym same ∙ is ∙ h.1)
  no_withdraw same none (events.GroupItems node) h = apart (codes "withdraw") (codes "group") refl (sym same ∙ is ∙ h.1)
  no_withdraw same none (events.Announce node prefix) h = apart (codes "withdraw") (codes "announce") refl (sym same ∙ is ∙ h.1)
  no_withdraw same none (events.Withdraw node prefix) h = none (node, prefix) (rw follows h.2)
  no_withdraw same none (events.Restart node now) h = apart (codes "withdraw") (codes "restart") refl (sym same ∙ is ∙ h.1)

  pub no_restart : word ≡ codes "restart" → ((p : ℕ × ℕ) → ¬ (IsPair IsLong IsLong rest p)) → (event : Event) → ¬ (IsEventText text event)
  no_restart same none (events.Tick node now) h = apart (codes "restart") (codes "tick") refl (sym same ∙ is ∙ h.1)
  no_restart same none (events.Emit node now) h = apart (codes "restart") (codes "emit") refl (sym same ∙ is ∙ h.1)
  no_restart same none (events.Deliver datagram node iface now) h = apart (codes "restart") (codes "deliver") refl (sym same ∙ is ∙ h.1)
  no_restart same none (events.SetCost node iface cost) h = apart (codes "restart") (codes "cost") refl (sym same ∙ is ∙ h.1)
  no_restart same none (events.Raise node) h = apart (codes "restart") (codes "raise") refl (sym same ∙ is ∙ h.1)
  no_restart same none (events.RequestSeqnos node now) h = apart (codes "restart") (codes "request") refl (sym same ∙ is ∙ h.1)
  no_restart same none (events.LoseLinks node iface now) h = apart (codes "restart") (codes "lose") refl (sym same ∙ is ∙ h.1)
  no_restart same none (events.GroupItems node) h = apart (codes "restart") (codes "group") refl (sym same ∙ is ∙ h.1)
  no_restart same none (events.Announce node prefix) h = apart (codes "restart") (codes "announce") refl (sym same ∙ is ∙ h.1)
  no_restart same none (events.Withdraw node prefix) h = apart (codes "restart") (codes "withdraw") refl (sym same ∙ is ∙ h.1)
  no_restart same none (events.Restart node now) h = none (node, now) (rw follows h.2)
