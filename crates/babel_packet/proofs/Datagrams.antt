-- A datagram means the messages of its body.
use Rattle.std.proofs.Common.{◌≡◌, ℕ, ◌+◌, false, List, length, None, Ok, nat_lt, refl, arith}
use Rattle.std.proofs.lemmas.Bool.{le-ltb}
use Rattle.std.proofs.lemmas.List.{take_all}
use Rattle.babel_value.specs.declared.addresses.Addr.{Addr}
use Rattle.babel_message.specs.declared.messages.Message.{Message}
use Rattle.babel_packet.specs.Numbers.{word}
use Rattle.babel_packet.specs.Meaning.{meaning, header_refusal, body_of}
use Rattle.babel_packet.specs.BodyMeanings.{BodyMeans, Means, placed_of, datagram}
use Rattle.babel_packet.proofs.Layouts.{two_again}

length_again : (body : List ℕ) → word (datagram body) 2 ≡ length body
unfolding word
length_again body = two_again (length body)

body_again : (body : List ℕ) → body_of (datagram body) ≡ body
body_again body = rw (length_again body) (take_all _ body (omega arith))

accepted : (body : List ℕ) → header_refusal (datagram body) ≡ None
accepted body =
    let long : nat_lt (length (datagram body)) 4 ≡ false = le-ltb _ _ (omega arith) in
    let whole : nat_lt (length (datagram body)) (4 + length body) ≡ false = le-ltb _ _ (omega arith) in
    rw (long, length_again body, whole) refl

read_again : (source : Addr) (body : List ℕ) (decoded : List Message) → BodyMeans source body decoded → meaning (datagram body) source ≡ Ok (placed_of source body)
unfolding meaning
read_again source body decoded meant = rw (accepted body, body_again body, meant.whole) refl

pub datagram_means : (source : Addr) (body : List ℕ) (decoded : List Message) → BodyMeans source body decoded → Means (datagram body) source decoded
datagram_means source body decoded meant =
    record { placed = placed_of source body; read = read_again source body decoded meant; decoded = meant.decoded; heeded = meant.heeded }
