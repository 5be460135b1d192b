-- Drafts of datagrams.
use Rattle.std.proofs.Common.{◌≡◌, ℕ, List, [], ◌∷◌, ◌++◌, Bool, true, false, refl, arith, sym, ap, ◌∙◌, subst, drop, slice_get, Some, None}
use Rattle.std.specs.Prelude.{◌&&◌, cond}
use Rattle.std.proofs.lemmas.Grind.{common_steps}
use Rattle.std.proofs.lemmas.List.Folds.{list_all-append}
use Rattle.std.specs.Option.{option_map_or, unwrap_or}
use Rattle.babel_message.specs.declared.messages.Message.{Message}
use Rattle.babel_build.specs.Built.{Built, HasEncoded, added, fits}
use Rattle.babel_packet.specs.Encodable.{is_encodable}
use Rattle.babel_state.specs.declared.items.Item.{Item}
use Rattle.babel_state.specs.declared.items.Outgoing.{Outgoing}
use Rattle.babel_state.specs.declared.items.Outgoing.TheVariants as outgoings
use Rattle.babel_state.specs.declared.items.Target.{Target}
use Rattle.babel_state.specs.Queueing.{Pending}
use Rattle.babel_state.specs.State.{State}
use Rattle.babel_state.specs.OutgoingMessages.{outgoing}
use Rattle.babel_state.specs.NextDatagram.{Fits, Draft, is_same_target, draft_with, drafted, after_message, left_out_more, without_first}
use Rattle.babel_state.proofs.Targets.{same_target}
use Rattle.babel_speaker.specs.Sending.{built_of, fits_at, draft_to, with_outgoing, is_encodable_outgoing, are_encodable, IsFilling, IsFilled, IsSkipped}
use Rattle.babel_speaker.specs.SentMessages.{no_draft, without_front, IsMessageTo}

-- One more message is added to the datagram that has the others.
pub built_more : (b : Built) (ms : List Message) (m : Message) → built_of b (ms ++ m ∷ []) ≡ added (built_of b ms) m
built_more b [] m = refl
built_more b (x ∷ ms) m = built_more (added b x) ms m

-- A message to the same target that fits is taken.
taken : (now : ℕ) (b : Built) (t to : Target) (s : State) (ms : List Message) (m : Message) → is_same_target t to ≡ true → fits (built_of b ms) m ≡ true → draft_with now (fits_at b) (draft_to t s ms) (outgoings.Message to m) ≡ Some (draft_to t (after_message now to m s) (ms ++ m ∷ []))
unfolding draft_with
taken now b t to s ms m same fit =
    let both : (is_same_target t to && fits (built_of b ms) m) ≡ true = grind (arith, common_steps) in
    let d : Target → Draft = λ u. record { state = after_message now to m s; target = Some u; messages = ms ++ m ∷ [] } in
    ap (λ v. cond v (Some (d to)) None) both ∙ ap (λ u. Some (d u)) (sym (same_target t to same))

pub add_taken : (now : ℕ) (b : Built) (t to : Target) (s s2 : State) (ms : List Message) (m : Message) (out : Outgoing) → outgoings.Message to m ≡ out → is_same_target t to ≡ true → fits (built_of b ms) m ≡ true → s2 ≡ after_message now to m s → draft_with now (fits_at b) (draft_to t s ms) out ≡ Some (draft_to t s2 (with_outgoing ms out))
add_taken now b t to s s2 ms m out is same fit after =
    let P : Outgoing → Type 0 = λ out. draft_with now (fits_at b) (draft_to t s ms) out ≡ Some (draft_to t s2 (with_outgoing ms out)) in
    subst P is (taken now b t to s ms m same fit ∙ ap (λ u. Some (draft_to t u (ms ++ m ∷ []))) (sym after))

-- A message to another target stays.
pub other_target : (now : ℕ) (b : Built) (t to : Target) (s : State) (ms : List Message) (out : Outgoing) → IsMessageTo to out → is_same_target t to ≡ false → draft_with now (fits_at b) (draft_to t s ms) out ≡ None
unfolding draft_with
other_target now b t to s ms outgoings.Nothing sent other = absurd sent
other_target now b t to s ms outgoings.LeftOut sent other = absurd sent
other_target now b t to s ms (outgoings.Message to2 m) sent other = rw (sent, other) refl

-- A message that is added is encoded after the others.
pub add_encoded : (built : Built) (ms : List Message) (m : Message) (out : Outgoing) (to : Target) → outgoings.Message to m ≡ out → (is_encodable m ≡ true → HasEncoded built (ms ++ m ∷ [])) → is_encodable_outgoing out ≡ true → HasEncoded built (with_outgoing ms out)
add_encoded built ms m out to is encoded =
    let P : Outgoing → Type 0 = λ out. is_encodable_outgoing out ≡ true → HasEncoded built (with_outgoing ms out) in
    subst P is encoded

-- ---- the first item

pub front_first : {X : Type 0} (xs : List X) (x : X) → slice_get xs 0 ≡ Some x → xs ≡ x ∷ drop 1 xs
front_first [] x is = cc
front_first (y ∷ ys) x is = ap (λ o. unwrap_or o y ∷ ys) is

pub none_first : {X : Type 0} (xs : List X) → slice_get xs 0 ≡ None → xs ≡ []
none_first [] is = refl
none_first (y ∷ ys) is = cc

-- What the first item makes of a draft.
pub drafted_first : (now : ℕ) (f : Fits) (xs : List Item) (x : Item) (d : Draft) → slice_get xs 0 ≡ Some x → drafted now f xs d ≡ option_map_or (λ c. drafted now f (drop 1 xs) (without_first (drop 1 xs) c)) (draft_with now f d (outgoing d.state x)) d
drafted_first now f xs x d is =
    let P : List Item → Type 0 = λ ys. drafted now f ys d ≡ option_map_or (λ c. drafted now f (drop 1 xs) (without_first (drop 1 xs) c)) (draft_with now f d (outgoing d.state x)) d in
    subst P (sym (front_first xs x is)) refl

-- ---- items that mean no message

pub skipped_left_out : (old s t : State) (x : Item) → IsSkipped old s → slice_get s.pending.items 0 ≡ Some x → outgoings.LeftOut ≡ outgoing s x →
    t ≡ without_front (left_out_more s) → IsSkipped old t
unfolding draft_with
skipped_left_out old s t x before first out is = record {
  interfaces = ap (λ (u : State). u.interfaces) is ∙ before.interfaces;
  same = λ now f.
      let xs : List Item = drop 1 s.pending.items in
      ap (λ (u : State). drafted now f u.pending.items (no_draft u)) is
      ∙ ap (λ o. option_map_or (λ c. drafted now f xs (without_first xs c)) (draft_with now f (no_draft s) o) (no_draft s)) out
      ∙ sym (drafted_first now f s.pending.items x (no_draft s) first)
      ∙ before.same now f;
}

pub skipped_nothing : (old s t : State) (x : Item) → IsSkipped old s → slice_get s.pending.items 0 ≡ Some x → outgoings.Nothing ≡ outgoing s x →
    t ≡ without_front s → IsSkipped old t
unfolding draft_with
skipped_nothing old s t x before first out is = record {
  interfaces = ap (λ (u : State). u.interfaces) is ∙ before.interfaces;
  same = λ now f.
      let xs : List Item = drop 1 s.pending.items in
      ap (λ (u : State). drafted now f u.pending.items (no_draft u)) is
      ∙ ap (λ o. option_map_or (λ c. drafted now f xs (without_first xs c)) (draft_with now f (no_draft s) o) (no_draft s)) out
      ∙ sym (drafted_first now f s.pending.items x (no_draft s) first)
      ∙ before.same now f;
}

-- ---- filling

parts_encodable : (ms : List Message) (out : Outgoing) → are_encodable (with_outgoing ms out) ≡ true → (are_encodable ms ≡ true) × (is_encodable_outgoing out ≡ true)
parts_encodable ms outgoings.Nothing whole = (whole, refl)
parts_encodable ms outgoings.LeftOut whole = (whole, refl)
parts_encodable ms (outgoings.Message to m) whole = both (are_encodable ms) (is_encodable m) (sym (list_all-append is_encodable ms (m ∷ [])) ∙ whole)
  where
    both : (p q : Bool) → (p && (q && true)) ≡ true → (p ≡ true) × (q ≡ true)
    both true true e = (refl, refl)
    both true false e = cc
    both false q e = cc

-- Filling goes on with one more item.
pub filling_goes : (now : ℕ) (b : Built) (given : List Message) (t : Target) (end : Draft) (first : Built) (s s2 : State) (built built2 : Built) (x : Item) →
    IsFilling now b given t end first s built → slice_get s.pending.items 0 ≡ Some x → s2.pending ≡ s.pending →
    ((ms : List Message) → built ≡ built_of b ms → draft_with now (fits_at b) (draft_to t s ms) (outgoing s x) ≡ Some (draft_to t s2 (with_outgoing ms (outgoing s x)))) →
    ((ms : List Message) → built ≡ built_of b ms → built2 ≡ built_of b (with_outgoing ms (outgoing s x))) →
    ((ms : List Message) → HasEncoded built ms → is_encodable_outgoing (outgoing s x) ≡ true → HasEncoded built2 (with_outgoing ms (outgoing s x))) →
    IsFilling now b given t end first (without_front s2) built2
filling_goes now b given t end first s s2 built built2 x before front pending goes has encoded =
    let f : Fits = fits_at b in
    let xs : List Item = drop 1 s.pending.items in
    let ms : List Message = with_outgoing before.ms (outgoing s x) in
    let d : Draft = draft_to t s before.ms in
    let rest : Pending → Draft = λ p. drafted now f (drop 1 p.items) (draft_to t (record s2 { pending = record s2.pending { items = drop 1 p.items } }) ms) in
    let step : drafted now f s.pending.items d ≡ rest s.pending =
    drafted_first now f s.pending.items x d front
    ∙ ap (λ o. option_map_or (λ c. drafted now f xs (without_first xs c)) o d) (goes before.ms before.has) in
    record {
      ms = ms;
      has = has before.ms before.has;
      same = ap rest pending ∙ (sym step ∙ before.same);
      encoded = λ whole all.
          let parts = parts_encodable before.ms (outgoing s x) all in
          encoded before.ms (before.encoded whole parts.0) parts.1;
    }

-- Filling ends with the draft that it came to.
filled_at : (now : ℕ) (b : Built) (given : List Message) (t : Target) (end : Draft) (first : Built) (s s2 : State) (built built2 : Built) →
    (before : IsFilling now b given t end first s built) → s2 ≡ s → built2 ≡ built → draft_to t s before.ms ≡ end → IsFilled b given t end s2 first built2
filled_at now b given t end first s s2 built built2 before same_state same_built ended =
    let P : List Message → Type 0 = λ ms. built2 ≡ built_of b ms in
    let Q : List Message → Type 0 = λ ms. (are_encodable given ≡ true → HasEncoded first given) → are_encodable ms ≡ true → HasEncoded built2 ms in
    let R : Built → Type 0 = λ u. (are_encodable given ≡ true → HasEncoded first given) → are_encodable before.ms ≡ true → HasEncoded u before.ms in
    let messages : before.ms ≡ end.messages = ap (λ d. d.messages) ended in
    record {
      state = same_state ∙ ap (λ d. d.state) ended;
      goes_to = ap (λ d. d.target) ended;
      has = subst P messages (same_built ∙ before.has);
      encoded = subst Q messages (subst R (sym same_built) before.encoded);
    }

-- An item stays.
pub filling_stops : (now : ℕ) (b : Built) (given : List Message) (t : Target) (end : Draft) (first : Built) (s s2 : State) (built built2 : Built) (x : Item) →
    IsFilling now b given t end first s built → slice_get s.pending.items 0 ≡ Some x →
    ((ms : List Message) → built ≡ built_of b ms → draft_with now (fits_at b) (draft_to t s ms) (outgoing s x) ≡ None) →
    s2 ≡ s → built2 ≡ built → IsFilled b given t end s2 first built2
filling_stops now b given t end first s s2 built built2 x before front stays same_state same_built =
    let f : Fits = fits_at b in
    let xs : List Item = drop 1 s.pending.items in
    let d : Draft = draft_to t s before.ms in
    let step : drafted now f s.pending.items d ≡ d =
    drafted_first now f s.pending.items x d front
    ∙ ap (λ o. option_map_or (λ c. drafted now f xs (without_first xs c)) o d) (stays before.ms before.has) in
    filled_at now b given t end first s s2 built built2 before same_state same_built (sym step ∙ before.same)

-- No item is left.
pub filling_ends : (now : ℕ) (b : Built) (given : List Message) (t : Target) (end : Draft) (first : Built) (s : State) (built : Built) →
    IsFilling now b given t end first s built → slice_get s.pending.items 0 ≡ None → IsFilled b given t end s first built
filling_ends now b given t end first s built before none =
    let P : List Item → Type 0 = λ xs. drafted now (fits_at b) xs (draft_to t s before.ms) ≡ end in
    filled_at now b given t end first s s built built before refl refl (subst P (none_first s.pending.items none) before.same)
