-- Every message of a datagram can be encoded.
use Rattle.std.specs.Prelude.{◌≡◌, ℕ, true, ◌&&◌, List, [], ◌∷◌, ◌++◌, IfSome, Option, Some, None}
use Rattle.std.specs.List.{list_all}
use Rattle.std.proofs.Common.{refl, ◌∙◌}
use Rattle.std.proofs.lemmas.Bool.{and_from}
use Rattle.std.proofs.lemmas.List.Folds.{list_all-append}
use Rattle.std.proofs.lemmas.List.Elements.{All-head}
use Rattle.babel_message.specs.declared.messages.Message.{Message}
use Rattle.babel_packet.specs.Encodable.{is_encodable}
use Rattle.babel_state.specs.declared.items.Item.{Item}
use Rattle.babel_state.specs.declared.items.Outgoing.{Outgoing}
use Rattle.babel_state.specs.declared.items.Outgoing.TheVariants as outgoings
use Rattle.babel_state.specs.OutgoingMessages.{outgoing}
use Rattle.babel_state.specs.NextDatagram.{Fits, Draft, with_message, goes_to, draft_with, without_first, next_datagram}
use Rattle.babel_state.specs.Invariants.{HasHops}
use Rattle.babel_state.specs.QueueLaws.{IsEncodable, DatagramsAreEncodable}
use Rattle.babel_state.proofs.SendingLaws.{if_some}
use Rattle.babel_state.proofs.SendingTables.{IsWellWith, one_well, end_well, item_by_item}
use Rattle.babel_state.proofs.Meanings.{item_encodable}

abbrev AreCarried : Draft → Type 0
AreCarried b = list_all is_encodable b.messages ≡ true

one_more : (ms : List Message) (m : Message) → list_all is_encodable ms ≡ true → is_encodable m ≡ true → list_all is_encodable (ms ++ m ∷ []) ≡ true
one_more ms m p encodable =
    list_all-append is_encodable ms (m ∷ []) ∙ and_from (list_all is_encodable ms) (list_all is_encodable (m ∷ [])) p (and_from (is_encodable m) true encodable refl)

one_carried : (now : ℕ) (fits : Fits) (b : Draft) (out : Outgoing) → IsEncodable out → AreCarried b → IfSome (draft_with now fits b out) AreCarried
unfolding draft_with
one_carried now fits b outgoings.Nothing encodable p = p
one_carried now fits b outgoings.LeftOut encodable p = p
one_carried now fits b (outgoings.Message target m) encodable p =
    if_some AreCarried (goes_to b.target target && fits target b.messages m) (with_message now b target m) (one_more b.messages m p encodable)

-- a well-formed state with some of its items, and messages that can be encoded
abbrev IsCarrying : Draft → List Item → Type 0
IsCarrying b xs = IsWellWith b xs × AreCarried b

both : (xs : List Item) (m : Option Draft) → IfSome m (λ c. IsWellWith (without_first xs c) xs) → IfSome m AreCarried → IfSome m (λ c. IsCarrying (without_first xs c) xs)
both xs None p q = tt
both xs (Some c) p q = (p, q)

one_carrying : (now : ℕ) (fits : Fits) (x : Item) (xs : List Item) (b : Draft) → IsCarrying b (x ∷ xs) → IfSome (draft_with now fits b (outgoing b.state x)) (λ c. IsCarrying (without_first xs c) xs)
one_carrying now fits x xs b p =
    both xs (draft_with now fits b (outgoing b.state x)) (one_well now fits x xs b p.0)
    (one_carried now fits b (outgoing b.state x) (item_encodable b.state x p.0.0 (All-head HasHops x xs p.0.1.0)) p.1)

pub datagrams_encodable : DatagramsAreEncodable
unfolding next_datagram
datagrams_encodable now fits s well =
    (item_by_item IsCarrying now fits (one_carrying now fits) (λ xs b p. (end_well xs b p.0, p.1)) s.pending.items
    (record { state = s; target = None; messages = [] }) ((well, (well.tables.pending.hops, well.tables.pending.few)), refl)).1
