-- The texts of events (profile), with one blank between two words:
-- `tick N T`, `emit N T`, `deliver K N I T`, `cost N I C`, `raise N`, `request N T`, `lose N I T`, `group N`, `announce N P`, `withdraw N P`, `restart N T`.
use Rattle.std.specs.Prelude.{◌≡◌, ℕ, List, codes}
use Rattle.babel_text.specs.Fields.{HasBlank, before_blank, after_blank}
use Rattle.babel_text.specs.Numbers.{IsNumberText}
use Rattle.babel_text.specs.Prefixes.{IsPrefixText}
use Rattle.babel_machine.specs.declared.events.Event.{Event}
use Rattle.babel_machine.specs.declared.events.Event.TheVariants as events

-- A word, and what follows it.
abbrev pub IsPair : {A B : Type 0} → (List ℕ → A → Type 0) → (List ℕ → B → Type 0) → List ℕ → A × B → Type 0
IsPair IsWord IsRest text pair = HasBlank text × IsWord (before_blank text) pair.0 × IsRest (after_blank text) pair.1

-- What follows a word.
abbrev pub IsAfterWord : {A : Type 0} → (List ℕ → A → Type 0) → List ℕ → A → Type 0
IsAfterWord IsRest text value = HasBlank text × IsRest (after_blank text) value

-- Nodes and datagrams by their numbers, and moments in centiseconds.
abbrev pub IsLong : List ℕ → ℕ → Type 0
IsLong = IsNumberText 64

-- The word of an event, and the words after it.
abbrev pub word_of : Event → List ℕ
word_of (events.Tick node now) = codes "tick"
word_of (events.Emit node now) = codes "emit"
word_of (events.Deliver datagram node iface now) = codes "deliver"
word_of (events.SetCost node iface cost) = codes "cost"
word_of (events.Raise node) = codes "raise"
word_of (events.RequestSeqnos node now) = codes "request"
word_of (events.LoseLinks node iface now) = codes "lose"
word_of (events.GroupItems node) = codes "group"
word_of (events.Announce node prefix) = codes "announce"
word_of (events.Withdraw node prefix) = codes "withdraw"
word_of (events.Restart node now) = codes "restart"

abbrev pub HasFields : List ℕ → Event → Type 0
HasFields text (events.Tick node now) = IsPair IsLong IsLong text (node, now)
HasFields text (events.Emit node now) = IsPair IsLong IsLong text (node, now)
HasFields text (events.Deliver datagram node iface now) = IsPair IsLong (IsPair IsLong (IsPair (IsNumberText 8) IsLong)) text (datagram, (node, (iface, now)))
HasFields text (events.SetCost node iface cost) = IsPair IsLong (IsPair (IsNumberText 8) (IsNumberText 16)) text (node, (iface, cost))
HasFields text (events.Raise node) = IsLong text node
HasFields text (events.RequestSeqnos node now) = IsPair IsLong IsLong text (node, now)
HasFields text (events.LoseLinks node iface now) = IsPair IsLong (IsPair (IsNumberText 8) IsLong) text (node, (iface, now))
HasFields text (events.GroupItems node) = IsLong text node
HasFields text (events.Announce node prefix) = IsPair IsLong IsPrefixText text (node, prefix)
HasFields text (events.Withdraw node prefix) = IsPair IsLong IsPrefixText text (node, prefix)
HasFields text (events.Restart node now) = IsPair IsLong IsLong text (node, now)

abbrev pub IsEventText : List ℕ → Event → Type 0
IsEventText text event = HasBlank text × (before_blank text ≡ word_of event) × HasFields (after_blank text) event
