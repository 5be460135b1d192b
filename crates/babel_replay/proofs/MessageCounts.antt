-- The messages of a datagram, counted.
use Rattle.std.proofs.Common.{◌≡◌, ℕ, ◌+◌, Bool, true, false, not, ◌||◌, ◌&&◌, cond, true≢false, List, [], ◌∷◌, length, Option, Some, None, Result, Ok, Err, nat_eq, refl, sym, ap, ◌∙◌, subst, arith}
use Rattle.std.proofs.lemmas.List.Sums.{sum_by-cons}
use Rattle.babel_value.specs.declared.addresses.Addr.{Addr}
use Rattle.babel_tlv.specs.Place.{Place}
use Rattle.babel_tlv.specs.Split.{places_of, fault_of}
use Rattle.babel_message.specs.Layout as layout
use Rattle.babel_message.specs.declared.messages.Message.{Message}
use Rattle.babel_message.specs.declared.placements.Content.{Content}
use Rattle.babel_message.specs.declared.placements.Content.TheVariants as contents
use Rattle.babel_message.specs.declared.placements.Placed.{Placed}
use Rattle.babel_message.specs.declared.errors.Refusal.{Refusal}
use Rattle.babel_packet.specs.LookBack.{before}
use Rattle.babel_packet.specs.BodyMeanings.{Means, are_heeded, is_heeded}
use Rattle.babel_packet.specs.Meaning.{content, placed_from, messages_of, content_messages, meaning, header_refusal, body_of, body_meaning, unless_refused}
use Rattle.babel_packet.specs.ReasonTable.{StatesAreOfTwoTypes, is_state, reason_of}
use Rattle.babel_speaker.specs.Sending.{MeansFrom}
use Rattle.babel_replay.specs.Report.{places_or_none}
use Rattle.babel_replay.specs.Counts.{CountsMessages, messages_among, is_message}

-- A place that isn't ignored adds one message, unless it is state.
one : (k : Content) (ms : List Message) (kinds : Bool) → is_heeded k ≡ true → (reason_of k ≡ None → is_state k ≡ kinds) →
    cond (not kinds) 1 0 + length ms ≡ length (content_messages k ms)
one (contents.Message message) ms true heeded two = absurd (true≢false (sym (two refl)))
one (contents.Message message) ms false heeded two = omega arith
one contents.State ms true heeded two = omega arith
one contents.State ms false heeded two = absurd (true≢false (two refl))
one (contents.Ignored reason) ms kinds heeded two = absurd (true≢false (sym heeded))

and_first : (a b : Bool) → a && b ≡ true → a ≡ true
and_first true b both = refl
and_first false b both = both

and_second : (a b : Bool) → a && b ≡ true → b ≡ true
and_second true b both = both
and_second false b both = absurd (true≢false (sym both))

all_counted : StatesAreOfTwoTypes → (source : Addr) (earlier ts : List Place) → are_heeded (placed_from source earlier ts) ≡ true →
    messages_among ts ≡ length (messages_of (placed_from source earlier ts))
all_counted two source earlier [] heeded = refl
all_counted two source earlier (t ∷ ts) heeded =
    let k : Content = content (before source earlier) t.kind t.payload in
    let rest = placed_from source (t ∷ earlier) ts in
    sum_by-cons (λ (x : Place). cond (is_message x) 1 0) t ts
    ∙ ap (λ n. cond (is_message t) 1 0 + n) (all_counted two source (t ∷ earlier) ts (and_second (is_heeded k) (are_heeded rest) heeded))
    ∙ one k (messages_of rest) (nat_eq t.kind layout.router_id || nat_eq t.kind layout.next_hop) (and_first (is_heeded k) (are_heeded rest) heeded)
    (two (before source earlier) t.kind t.payload)

abbrev is_read : Result (List Placed) Refusal → Bool
is_read (Ok placed) = true
is_read (Err refusal) = false

whole_by : (r : Option Refusal) (f : Option ℕ) (source : Addr) (ts : List Place) (placed : List Placed) → unless_refused r (body_meaning source f ts) ≡ Ok placed →
    (r ≡ None) × (placed_from source [] ts ≡ placed)
whole_by (Some r) f source ts placed is = absurd (true≢false (sym (ap is_read is)))
whole_by None (Some offset) source ts placed is = absurd (true≢false (sym (ap is_read is)))
whole_by None None source ts placed is = (refl, ap places_or_none is)

whole : (source : Addr) (bytes : List ℕ) (placed : List Placed) → meaning bytes source ≡ Ok placed →
    (header_refusal bytes ≡ None) × (placed_from source [] (places_of (body_of bytes)) ≡ placed)
unfolding meaning
whole source bytes placed is = whole_by (header_refusal bytes) (fault_of (body_of bytes)) source (places_of (body_of bytes)) placed is

pub counts_messages : StatesAreOfTwoTypes → (bytes body : List ℕ) (n : ℕ) → (header_refusal bytes ≡ None → body ≡ body_of bytes) → n ≡ messages_among (places_of body) →
    CountsMessages bytes n
counts_messages two bytes body n at is source messages means =
    let parts = whole source bytes means.placed means.read in
    is
    ∙ ap (λ b. messages_among (places_of b)) (at parts.0)
    ∙ all_counted two source [] (places_of (body_of bytes)) (ap are_heeded parts.1 ∙ means.heeded)
    ∙ ap (λ p. length (messages_of p)) parts.1
    ∙ ap length means.decoded

-- What a datagram of the speaker was counted to have is what it means.
pub counted_of : (o : Option Addr) (octets given : List ℕ) (messages : List Message) (n : ℕ) → MeansFrom o octets messages → given ≡ octets → CountsMessages given n → n ≡ length messages
counted_of None octets given messages n means same counts = absurd means
counted_of (Some source) octets given messages n means same counts = counts source messages (subst (λ l. Means l source messages) (sym same) means)
