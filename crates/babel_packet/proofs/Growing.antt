-- The messages of a body that grows by one TLV.
use Rattle.std.proofs.Common.{◌≡◌, ℕ, ◌+◌, true, List, [], ◌∷◌, ◌++◌, reverse, length, None, refl, ap, sym, ◌∙◌, append-nil, append_assoc}
use Rattle.std.proofs.lemmas.List.{reverse-append}
use Rattle.std.proofs.lemmas.List.Folds.{list_all-append}
use Rattle.babel_value.specs.declared.addresses.Addr.{Addr}
use Rattle.babel_tlv.specs.Place.{Place}
use Rattle.babel_tlv.specs.Spelling.{spelled}
use Rattle.babel_tlv.specs.Split.{places_of, fault_of}
use Rattle.babel_message.specs.declared.messages.Message.{Message}
use Rattle.babel_message.specs.declared.placements.Content.{Content}
use Rattle.babel_message.specs.declared.placements.Content.TheVariants as contents
use Rattle.babel_message.specs.declared.placements.Placed.{Placed}
use Rattle.babel_packet.specs.LookBack.{before}
use Rattle.babel_packet.specs.Meaning.{content, content_messages, placed_from, messages_of}
use Rattle.babel_packet.specs.BodyMeanings.{BodyMeans, is_heeded, are_heeded, placed_of, state_after}

-- the place of a TLV that follows a body
abbrev pub placed_following : List ℕ → ℕ → List ℕ → Place
placed_following body kind payload = record { offset = length body; kind = kind; payload = payload }

-- the split of the longer body
pub record Splits (body : List ℕ) (kind : ℕ) (payload : List ℕ) : Type 0 where
  pub places : places_of (body ++ spelled kind payload) ≡ places_of body ++ placed_following body kind payload ∷ []
  pub fault : fault_of (body ++ spelled kind payload) ≡ None

reversed_onto : (u : Place) (ts earlier : List Place) → reverse (u ∷ ts) ++ earlier ≡ reverse ts ++ (u ∷ earlier)
reversed_onto u ts earlier = ap (λ us. us ++ earlier) (reverse-append (u ∷ []) ts) ∙ append_assoc (reverse ts) (u ∷ []) earlier

placed_more : (source : Addr) (earlier ts : List Place) (t : Place) →
    placed_from source earlier (ts ++ t ∷ []) ≡
    placed_from source earlier ts ++ record { offset = 4 + t.offset; content = content (before source (reverse ts ++ earlier)) t.kind t.payload } ∷ []
placed_more source earlier [] t = refl
placed_more source earlier (u ∷ ts) t =
    ap (λ (ps : List Placed). record { offset = 4 + u.offset; content = content (before source earlier) u.kind u.payload } ∷ ps)
    (placed_more source (u ∷ earlier) ts t ∙
    ap (λ us. placed_from source (u ∷ earlier) ts ++ record { offset = 4 + t.offset; content = content (before source us) t.kind t.payload } ∷ [])
    (sym (reversed_onto u ts earlier)))

placed_of_more : (source : Addr) (body : List ℕ) (kind : ℕ) (payload : List ℕ) → Splits body kind payload →
    placed_of source (body ++ spelled kind payload) ≡
    placed_of source body ++ record { offset = 4 + length body; content = content (state_after source body) kind payload } ∷ []
placed_of_more source body kind payload splits =
    ap (λ ts. placed_from source [] ts) splits.places ∙ placed_more source [] (places_of body) (placed_following body kind payload) ∙
    ap (λ us. placed_of source body ++ record { offset = 4 + length body; content = content (before source us) kind payload } ∷ [])
    (append-nil (reverse (places_of body)))

-- The parser state after the TLV looks back at it first.
pub state_more : (source : Addr) (body : List ℕ) (kind : ℕ) (payload : List ℕ) → Splits body kind payload →
    state_after source (body ++ spelled kind payload) ≡ before source (placed_following body kind payload ∷ reverse (places_of body))
state_more source body kind payload splits =
    ap (λ ts. before source ts) (ap (λ ts. reverse ts) splits.places ∙ reverse-append (places_of body) (placed_following body kind payload ∷ []))

content_messages-append : (c : Content) (ms ns : List Message) → content_messages c (ms ++ ns) ≡ content_messages c ms ++ ns
content_messages-append (contents.Message m) ms ns = refl
content_messages-append contents.State ms ns = refl
content_messages-append (contents.Ignored reason) ms ns = refl

messages_of-append : (xs ys : List Placed) → messages_of (xs ++ ys) ≡ messages_of xs ++ messages_of ys
messages_of-append [] ys = refl
messages_of-append (x ∷ xs) ys =
    ap (λ ms. content_messages x.content ms) (messages_of-append xs ys) ∙ content_messages-append x.content (messages_of xs) (messages_of ys)

heeded-append : (xs ys : List Placed) → are_heeded xs ≡ true → are_heeded ys ≡ true → are_heeded (xs ++ ys) ≡ true
heeded-append xs ys h k = list_all-append (λ (p : Placed). is_heeded p.content) xs ys ∙ (rw (h, k) refl)

means_more : (source : Addr) (body : List ℕ) (decoded : List Message) (kind : ℕ) (payload : List ℕ) → Splits body kind payload → BodyMeans source body decoded →
    is_heeded (content (state_after source body) kind payload) ≡ true →
    BodyMeans source (body ++ spelled kind payload) (decoded ++ content_messages (content (state_after source body) kind payload) [])
means_more source body decoded kind payload splits meant heeded =
    let one : List Placed = record { offset = 4 + length body; content = content (state_after source body) kind payload } ∷ [] in
    let more = placed_of_more source body kind payload splits in
    record {
      whole = splits.fault;
      decoded = ap messages_of more ∙ messages_of-append (placed_of source body) one ∙ ap (λ ms. ms ++ messages_of one) meant.decoded;
      heeded = ap are_heeded more ∙ heeded-append (placed_of source body) one meant.heeded (rw heeded refl);
    }

-- A TLV that is a message adds it after the others, and one that is state adds none.
pub means_message : (source : Addr) (body : List ℕ) (decoded : List Message) (kind : ℕ) (payload : List ℕ) (message : Message) →
    Splits body kind payload → BodyMeans source body decoded → content (state_after source body) kind payload ≡ contents.Message message →
    BodyMeans source (body ++ spelled kind payload) (decoded ++ message ∷ [])
means_message source body decoded kind payload message splits meant is =
    rw is at (means_more source body decoded kind payload splits meant (rw is refl))

pub means_state : (source : Addr) (body : List ℕ) (decoded : List Message) (kind : ℕ) (payload : List ℕ) →
    Splits body kind payload → BodyMeans source body decoded → content (state_after source body) kind payload ≡ contents.State →
    BodyMeans source (body ++ spelled kind payload) decoded
means_state source body decoded kind payload splits meant is =
    rw (append-nil decoded) at (rw is at (means_more source body decoded kind payload splits meant (rw is refl)))
