-- What is seen of a network after a speaker has changed, or a datagram was sent.
use Rattle.std.proofs.Common.{◌≡◌, ◌<◌, ℕ, List, [], ◌∷◌, Some, option_map, length, map, set, slice_get, sym, ap, ◌∙◌}
use Rattle.std.proofs.lemmas.List.{map-set, map-append, set-get_or}
use Rattle.std.proofs.lemmas.Option.{slice_get-map, slice_get_within, get_or_from_slice_get}
use Rattle.babel_state.specs.Seen.{Seen, seen}
use Rattle.babel_state.specs.State.{State}
use Rattle.babel_machine.specs.Worlds.{World, SentDatagram, speaker_at, nothing, with_speaker, with_datagram}
use Rattle.babel_net.specs.Networks.{NetworkState, SentOctets, with_speaker_state, with_octets, datagram_seen, world_of}

seen_at : (n : NetworkState) (node : ℕ) (s : State) → slice_get n.speakers node ≡ Some s → slice_get (map seen n.speakers) node ≡ Some (seen s)
seen_at n node s is = slice_get-map seen n.speakers node ∙ ap (option_map seen) is

pub speaker_seen : (n : NetworkState) (node : ℕ) (s : State) → slice_get n.speakers node ≡ Some s → speaker_at (world_of n) node ≡ seen s
speaker_seen n node s is = get_or_from_slice_get (map seen n.speakers) node (seen s) nothing (seen_at n node s is)

pub node_inside : (n : NetworkState) (node : ℕ) (s : State) → slice_get n.speakers node ≡ Some s → node < length (world_of n).speakers
node_inside n node s is = slice_get_within (map seen n.speakers) node (seen s) (seen_at n node s is)

pub sent_seen : (n : NetworkState) (number : ℕ) (d : SentOctets) → slice_get n.sent number ≡ Some d → slice_get (world_of n).sent number ≡ Some (datagram_seen d)
sent_seen n number d is = slice_get-map datagram_seen n.sent number ∙ ap (option_map datagram_seen) is

pub world_with_speaker : (n : NetworkState) (node : ℕ) (s : State) → world_of (with_speaker_state n node s) ≡ with_speaker (world_of n) node (seen s)
world_with_speaker n node s =
    ap (λ (xs : List Seen). let w : World = record { speakers = xs; sent = map datagram_seen n.sent } in w) (map-set seen n.speakers node s)

pub world_with_octets : (n : NetworkState) (d : SentOctets) → world_of (with_octets n d) ≡ with_datagram (world_of n) (datagram_seen d)
world_with_octets n d =
    ap (λ (xs : List SentDatagram). let w : World = record { speakers = map seen n.speakers; sent = xs } in w) (map-append datagram_seen n.sent (d ∷ []))

-- a speaker that is written back changes nothing
pub written_back : (n : NetworkState) (node : ℕ) (s : State) → slice_get n.speakers node ≡ Some s → with_speaker_state n node s ≡ n
written_back n node s is =
    ap (λ (xs : List State). let m : NetworkState = record n { speakers = xs } in m)
    (ap (set n.speakers node) (sym (get_or_from_slice_get n.speakers node s s is)) ∙ set-get_or n.speakers node s)
