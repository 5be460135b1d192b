-- The next datagram of a speaker.
use Rattle.std.proofs.Common.{◌≡◌, ℕ, List, [], ◌∷◌, ◌++◌, Bool, true, false, refl, sym, ap, ◌∙◌, subst, drop, slice_get, Some, None, cond}
use Rattle.std.specs.Prelude.{Option, IsSome, is_none, ◌&&◌}
use Rattle.std.specs.List.{list_all}
use Rattle.std.proofs.lemmas.Bool.{false≢true}
use Rattle.std.proofs.lemmas.Option.{none-some}
use Rattle.std.specs.Bool.{OnTrue}
use Rattle.std.specs.Option.{option_map_or}
use Rattle.babel_value.specs.declared.addresses.Addr.{Addr}
use Rattle.babel_message.specs.declared.messages.Message.{Message}
use Rattle.babel_packet.specs.Encodable.{is_encodable}
use Rattle.babel_packet.specs.BodyMeanings.{Means, datagram}
use Rattle.babel_build.specs.Built.{Built, HasEncoded, added, fits}
use Rattle.babel_state.specs.declared.items.Item.{Item}
use Rattle.babel_state.specs.declared.items.Outgoing.{Outgoing}
use Rattle.babel_state.specs.declared.items.Outgoing.TheVariants as outgoings
use Rattle.babel_state.specs.declared.items.Target.{Target}
use Rattle.babel_state.specs.State.{State, interface_at}
use Rattle.babel_state.specs.Addresses.{transport_at}
use Rattle.babel_state.specs.Queueing.{Pending}
use Rattle.babel_state.specs.OutgoingMessages.{outgoing}
use Rattle.babel_state.specs.NextDatagram.{Fits, Draft, is_same_target, draft_with, drafted, after_message, without_first, with_message, next_datagram}
use Rattle.babel_state.specs.QueueLaws.{is_silent, has_no_message, NoneIfNothingPending, HasInterface, ItemsHaveInterfaces}
use Rattle.babel_state.proofs.Targets.{same_target}
use Rattle.babel_speaker.specs.Sending.{HaveTransports, built_of, empty_datagram, fits_from, fits_at, fits_by, draft_to, first_message, message_of, are_encodable, MeansFrom, IsBuiltFrom, IsFilled, draft_at}
use Rattle.babel_speaker.specs.SentMessages.{no_draft, without_front}

-- ---- the builder's own fits

-- After a draft that goes to a target, what fits into a datagram of its interface is what fits into one from its address.
one_same : (now : ℕ) (s0 : State) (t : Target) (source : Addr) (xs : List Item) (s : State) (ms : List Message) →
    transport_at t.iface s0 ≡ Some source →
    ((t : Target) → transport_at t.iface s0 ≡ Some source → (s : State) (ms : List Message) → drafted now (fits_by s0) xs (draft_to t s ms) ≡ drafted now (fits_at (empty_datagram source)) xs (draft_to t s ms)) →
    (out : Outgoing) →
    option_map_or (λ c. drafted now (fits_by s0) xs (without_first xs c)) (draft_with now (fits_by s0) (draft_to t s ms) out) (draft_to t s ms)
    ≡ option_map_or (λ c. drafted now (fits_at (empty_datagram source)) xs (without_first xs c)) (draft_with now (fits_at (empty_datagram source)) (draft_to t s ms) out) (draft_to t s ms)
unfolding draft_with
one_same now s0 t source xs s ms from rest outgoings.Nothing = rest t from _ ms
one_same now s0 t source xs s ms from rest outgoings.LeftOut = rest t from _ ms
one_same now s0 t source xs s ms from rest (outgoings.Message to m) = pick (is_same_target t to) refl
  where
    one : Draft → Draft
    one c = drafted now (fits_by s0) xs (without_first xs c)

    two : Draft → Draft
    two c = drafted now (fits_at (empty_datagram source)) xs (without_first xs c)

    more : Draft
    more = with_message now (draft_to t s ms) to m

    last : transport_at to.iface s0 ≡ Some source → (w : Bool) → option_map_or one (cond w (Some more) None) (draft_to t s ms) ≡ option_map_or two (cond w (Some more) None) (draft_to t s ms)
    last from_to true = rest to from_to _ (ms ++ m ∷ [])
    last from_to false = refl

    pick : (v : Bool) → is_same_target t to ≡ v →
        option_map_or one (cond (v && fits_by s0 to ms m) (Some more) None) (draft_to t s ms) ≡ option_map_or two (cond (v && fits_at (empty_datagram source) to ms m) (Some more) None) (draft_to t s ms)
    pick false same = refl
    pick true same =
        let from_to : transport_at to.iface s0 ≡ Some source = ap (λ (u : Target). transport_at u.iface s0) (sym (same_target t to same)) ∙ from in
        ap (λ o. option_map_or one (cond (fits_from o ms m) (Some more) None) (draft_to t s ms)) from_to ∙ last from_to (fits_at (empty_datagram source) to ms m)

fits_same : (now : ℕ) (s0 : State) (source : Addr) (xs : List Item) (t : Target) → transport_at t.iface s0 ≡ Some source → (s : State) (ms : List Message) →
    drafted now (fits_by s0) xs (draft_to t s ms) ≡ drafted now (fits_at (empty_datagram source)) xs (draft_to t s ms)
fits_same now s0 source [] t from s ms = refl
fits_same now s0 source (x ∷ xs) t from s ms = one_same now s0 t source xs s ms from (fits_same now s0 source xs) (outgoing s x)

-- ---- how a datagram begins

-- No item is left.
pub next_none : (now : ℕ) (f : Fits) (old new : State) → drafted now f new.pending.items (no_draft new) ≡ drafted now f old.pending.items (no_draft old) → new.pending.items ≡ [] → next_datagram now f old ≡ no_draft new
unfolding next_datagram
next_none now f old new same empty = sym same ∙ ap (λ xs. drafted now f xs (no_draft new)) empty

-- What the first message makes of a draft without messages.
first_drafted : (now : ℕ) (f : Fits) (s : State) (xs : List Item) (t : Target) (m : Message) → first_message s xs ≡ Some (t, m) →
    drafted now f xs (no_draft s) ≡ option_map_or (λ c. drafted now f (drop 1 xs) (without_first (drop 1 xs) c)) (draft_with now f (no_draft s) (outgoings.Message t m)) (no_draft s)
first_drafted now f s [] t m is = cc
first_drafted now f s (x ∷ xs) t m is =
    ap (λ out. option_map_or (λ c. drafted now f xs (without_first xs c)) (draft_with now f (no_draft s) out) (no_draft s)) (by (outgoing s x) is)
  where
    by : (out : Outgoing) → message_of out ≡ Some (t, m) → out ≡ outgoings.Message t m
    by outgoings.Nothing e = cc
    by outgoings.LeftOut e = cc
    by (outgoings.Message u n) e = ap (λ o. option_map_or (λ p. outgoings.Message p.0 p.1) o (outgoings.Message u n)) e

begun : (now : ℕ) (f : Fits) (s : State) (t : Target) (m : Message) (fit : Bool) → f t [] m ≡ fit → draft_with now f (no_draft s) (outgoings.Message t m) ≡ cond fit (Some (draft_to t (after_message now t m s) (m ∷ []))) None
unfolding draft_with
begun now f s t m fit is = ap (λ v. cond v (Some (draft_to t (after_message now t m s) (m ∷ []))) None) is

-- The interface has no address, so that nothing fits.
pub next_stays : (now : ℕ) (s0 new : State) (t : Target) (m : Message) → drafted now (fits_by s0) new.pending.items (no_draft new) ≡ drafted now (fits_by s0) s0.pending.items (no_draft s0) →
    first_message new new.pending.items ≡ Some (t, m) → transport_at t.iface s0 ≡ None → draft_at now s0 ≡ no_draft new
unfolding next_datagram
next_stays now s0 new t m same first none =
    let f : Fits = fits_by s0 in
    let xs : List Item = drop 1 new.pending.items in
    sym same ∙ first_drafted now f new new.pending.items t m first
    ∙ ap (λ o. option_map_or (λ c. drafted now f xs (without_first xs c)) o (no_draft new)) (begun now f new t m false (ap (λ o. fits_from o [] m) none))

-- The first message begins the datagram.
pub next_begins : (now : ℕ) (s0 new s2 s3 : State) (t : Target) (m : Message) (source : Addr) → drafted now (fits_by s0) new.pending.items (no_draft new) ≡ drafted now (fits_by s0) s0.pending.items (no_draft s0) →
    first_message new new.pending.items ≡ Some (t, m) → transport_at t.iface s0 ≡ Some source → fits (empty_datagram source) m ≡ true →
    s2 ≡ after_message now t m new → s2.pending ≡ new.pending → s3 ≡ without_front s2 →
    draft_at now s0 ≡ drafted now (fits_at (empty_datagram source)) s3.pending.items (draft_to t s3 (m ∷ []))
unfolding next_datagram
next_begins now s0 new s2 s3 t m source same first from fit after pending popped =
    let f : Fits = fits_by s0 in
    let xs : List Item = drop 1 new.pending.items in
    let rest : Pending → Draft = λ p. drafted now f (drop 1 p.items) (draft_to t (record s2 { pending = record s2.pending { items = drop 1 p.items } }) (m ∷ [])) in
    sym same ∙ first_drafted now f new new.pending.items t m first
    ∙ ap (λ o. option_map_or (λ c. drafted now f xs (without_first xs c)) o (no_draft new)) (begun now f new t m true (ap (λ o. fits_from o [] m) from ∙ fit))
    ∙ ap (λ u. drafted now f xs (without_first xs (draft_to t u (m ∷ [])))) (sym after)
    ∙ ap rest (sym pending)
    ∙ fits_same now s0 source (drop 1 s2.pending.items) t from (without_front s2) (m ∷ [])
    ∙ ap (λ u. drafted now (fits_at (empty_datagram source)) u.pending.items (draft_to t u (m ∷ []))) (sym popped)

-- ---- the first message is added

pub first_added : (b new : Built) (source : Addr) (m : Message) (added_it : Bool) → b ≡ empty_datagram source → added_it ≡ fits b m → (b.body ≡ [] → added_it ≡ true) → OnTrue added_it (new ≡ added b m) →
    (fits (empty_datagram source) m ≡ true) × (new ≡ built_of (empty_datagram source) (m ∷ []))
first_added b new source m added_it is fit alone more =
    let taken : added_it ≡ true = alone (ap (λ (b : Built). b.body) is) in
    let P : Bool → Type 0 = λ v. OnTrue v (new ≡ added b m) in
    (ap (λ b. fits b m) (sym is) ∙ (sym fit ∙ taken), subst P taken more ∙ ap (λ b. added b m) is)

-- ---- what it means

built_source : (b : Built) (ms : List Message) → (built_of b ms).source ≡ b.source
built_source b [] = refl
built_source b (m ∷ ms) = built_source (added b m) ms

pub alone_encoded : (first : Built) (m : Message) → (is_encodable m ≡ true → HasEncoded first (m ∷ [])) → are_encodable (m ∷ []) ≡ true → HasEncoded first (m ∷ [])
alone_encoded first m encoded whole = encoded (both (is_encodable m) whole)
  where
    both : (p : Bool) → (p && true) ≡ true → p ≡ true
    both true e = refl
    both false e = cc

-- The octets of a datagram that is filled mean the messages of its draft.
pub filled_means : (source : Addr) (from : Option Addr) (given : List Message) (t : Target) (end next : Draft) (s : State) (first built : Built) (octets : List ℕ) →
    IsFilled (empty_datagram source) given t end s first built → next ≡ end → from ≡ Some source → (are_encodable given ≡ true → HasEncoded first given) →
    ((ms : List Message) → HasEncoded built ms → Means octets built.source ms) → are_encodable next.messages ≡ true → MeansFrom from octets next.messages
filled_means source from given t end next s first built octets filled is at begins means whole =
    let from_source : built.source ≡ source = ap (λ (b : Built). b.source) filled.has ∙ built_source (empty_datagram source) end.messages in
    let P : Draft → Type 0 = λ d. are_encodable d.messages ≡ true → MeansFrom from octets d.messages in
    let Q : Option Addr → Type 0 = λ o. MeansFrom o octets end.messages in
    let R : Addr → Type 0 = λ a. Means octets a end.messages in
    subst P (sym is) (λ whole. subst Q (sym at) (subst R from_source (means end.messages (filled.encoded begins whole)))) whole

-- They are the octets that the builder makes of its messages.
pub filled_built : (source : Addr) (from : Option Addr) (given : List Message) (t : Target) (end next : Draft) (s : State) (first built : Built) (octets : List ℕ) →
    IsFilled (empty_datagram source) given t end s first built → next ≡ end → from ≡ Some source → octets ≡ datagram built.body → IsBuiltFrom from octets next.messages
filled_built source from given t end next s first built octets filled is at written =
    let P : Draft → Type 0 = λ d. IsBuiltFrom from octets d.messages in
    let Q : Option Addr → Type 0 = λ o. IsBuiltFrom o octets end.messages in
    subst P (sym is) (subst Q (sym at) (written ∙ ap (λ (b : Built). datagram b.body) filled.has))

-- ---- whether an item means a message

-- The law of datagrams for a builder in which all fits: what is skipped changes nothing of it.
same_silence : (old new : State) → NoneIfNothingPending → ((now : ℕ) (f : Fits) → drafted now f new.pending.items (no_draft new) ≡ drafted now f old.pending.items (no_draft old)) → is_silent new ≡ is_silent old
unfolding next_datagram
same_silence old new law same =
    sym (law 0 (λ t ms m. true) new (λ k d below t m is. refl)) ∙ ap (λ (d : Draft). is_none d.target) (same 0 (λ t ms m. true)) ∙ law 0 (λ t ms m. true) old (λ k d below t m is. refl)

speaks : (s : State) (xs : List Item) (t : Target) (m : Message) → first_message s xs ≡ Some (t, m) → list_all (λ x. has_no_message (outgoing s x)) xs ≡ false
speaks s [] t m is = cc
speaks s (x ∷ xs) t m is = by (outgoing s x) is
  where
    by : (out : Outgoing) → message_of out ≡ Some (t, m) → (has_no_message out && list_all (λ x. has_no_message (outgoing s x)) xs) ≡ false
    by outgoings.Nothing e = cc
    by outgoings.LeftOut e = cc
    by (outgoings.Message u n) e = refl

pub silent_if_none : (old new : State) → NoneIfNothingPending → ((now : ℕ) (f : Fits) → drafted now f new.pending.items (no_draft new) ≡ drafted now f old.pending.items (no_draft old)) →
    new.pending.items ≡ [] → is_silent old ≡ true
silent_if_none old new law same empty = sym (same_silence old new law same) ∙ ap (list_all (λ x. has_no_message (outgoing new x))) empty

pub speaks_if_some : (old new : State) (t : Target) (m : Message) → NoneIfNothingPending → ((now : ℕ) (f : Fits) → drafted now f new.pending.items (no_draft new) ≡ drafted now f old.pending.items (no_draft old)) →
    first_message new new.pending.items ≡ Some (t, m) → is_silent old ≡ false
speaks_if_some old new t m law same first = sym (same_silence old new law same) ∙ speaks new new.pending.items t m first

over_interface : (s : State) (xs : List Item) (t : Target) (m : Message) → ItemsHaveInterfaces → first_message s xs ≡ Some (t, m) → IsSome (interface_at t.iface s)
over_interface s [] t m law is = cc
over_interface s (x ∷ xs) t m law is = by (outgoing s x) (law s x) is
  where
    by : (out : Outgoing) → HasInterface s out → message_of out ≡ Some (t, m) → IsSome (interface_at t.iface s)
    by outgoings.Nothing has e = cc
    by outgoings.LeftOut has e = cc
    by (outgoings.Message u n) has e = subst (λ (v : Target). IsSome (interface_at v.iface s)) (ap (λ o. option_map_or (λ p. p.0) o u) e) has

none_there : (o : Option Addr) → IsSome o → o ≡ None → ⊥
none_there None there none = false≢true there
none_there (Some a) there none = none-some a (sym none)

-- The interface of a message has an address to send from.
pub transport_there : (old new : State) (t : Target) (m : Message) → ItemsHaveInterfaces → new.interfaces ≡ old.interfaces → first_message new new.pending.items ≡ Some (t, m) → HaveTransports old →
    transport_at t.iface old ≡ None → ⊥
transport_there old new t m law same first transports none =
    none_there (transport_at t.iface old) (transports t.iface (subst (λ is. IsSome (slice_get is t.iface)) same (over_interface new new.pending.items t m law first))) none
