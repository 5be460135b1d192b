-- A call of a speaker that sends nothing: the network knows which node sent the updates that it receives.
use Rattle.std.proofs.Common.{◌≡◌, ◌⊎◌, ◌<◌, ◌≤◌, ℕ, ◌+◌, Bool, true, List, Some, Contains, length, sym, ap, ◌∙◌, inl, inr, arith}
use Rattle.babel_value.specs.declared.keys.Peer.{Peer}
use Rattle.babel_value.specs.Prefixes.{PrefixValue}
use Rattle.babel_state.specs.declared.configs.Config.{Config}
use Rattle.babel_state.specs.Seen.{Seen, UpdateValue, HeardValue, Moves, IsHeardFrom}
use Rattle.babel_machine.specs.Owners.{owner_of, Lists}
use Rattle.babel_machine.specs.Worlds.{World, speaker_at, updates_of}
use Rattle.babel_machine.specs.Invariants.{WasSent, HoldsWith, update_heard}
use Rattle.babel_machine.proofs.Moving.{Moved}

-- each update was sent by the node that owns the peer's address
abbrev pub AreSentBy : List Config → World → Peer → List UpdateValue → Type 0
AreSentBy configs old peer updates =
    (u : UpdateValue) → Contains updates u → (from : ℕ) × (owner_of configs peer.addr ≡ Some from) × Contains (updates_of from old.sent) u

-- what is announced was announced before, or is listed
abbrev pub AreListed : List Config → ℕ → World → (PrefixValue → Bool) → Type 0
AreListed configs node old announced = (p : PrefixValue) → announced p ≡ true → ((speaker_at old node).announces p ≡ true) ⊎ Lists configs node p

-- a route that is new was heard from a node that sent it, with an own address as its next hop
pub heard_from : (is_heard : PrefixValue → Peer → HeardValue → Type 0) (is_known : ℕ → UpdateValue → Type 0) (configs : List Config) (old : World) (peer : Peer) (updates : List UpdateValue) → HoldsWith is_heard is_known configs old → ((node : ℕ) (u : UpdateValue) → is_known node u → owner_of configs u.next_hop ≡ Some node) → AreSentBy configs old peer updates → (prefix : PrefixValue) (from : Peer) (h : HeardValue) → IsHeardFrom peer updates prefix from h → WasSent configs old.sent prefix from h
heard_from is_heard is_known configs old peer updates holds own known prefix from h is =
    let sent = known (update_heard prefix h) is.1 in
    record {
      node = sent.0;
      neighbour = ap (λ (p : Peer). owner_of configs p.addr) is.0 ∙ sent.1;
      next_hop = own sent.0 (update_heard prefix h) (holds.updates sent.0 (update_heard prefix h) sent.2);
      recorded = sent.2;
    }

pub moved_by_call : (is_heard : PrefixValue → Peer → HeardValue → Type 0) (is_known : ℕ → UpdateValue → Type 0) (configs : List Config) (node : ℕ) (old : World) (peer : Peer) (updates : List UpdateValue) (growths : ℕ) (announced : PrefixValue → Bool) (speaker : Seen) → HoldsWith is_heard is_known configs old → node < length old.speakers → Moves peer updates growths announced (speaker_at old node) speaker → ((prefix : PrefixValue) (from : Peer) (h : HeardValue) → IsHeardFrom peer updates prefix from h → is_heard prefix from h) → AreListed configs node old announced → Moved is_heard configs node old speaker
moved_by_call is_heard is_known configs node old peer updates growths announced speaker holds inside moves known listed = record {
  inside = inside;
  growths = growths;
  router = moves.router;
  collects = moves.collects;
  transports = λ iface addr is. holds.transports node iface addr (sym (moves.transports iface) ∙ is);
  addresses = λ iface family addr is. holds.addresses node iface family addr (sym (moves.addresses iface family) ∙ is);
  seqno = moves.seqno;
  raises = below;
  announces = λ prefix is. on prefix (listed prefix (sym (moves.announces prefix) ∙ is));
  sources = moves.sources (holds.collects node);
  heard = λ prefix from h is. heard prefix from h (moves.entries prefix from h is);
  selecting = moves.selecting;
  others = moves.others (holds.others node);
}
  where
    below : speaker.raises ≤ 32767 → speaker.raises ≡ (speaker_at old node).raises + growths
    below le = omega (arith, moves.raises, le)

    on : (prefix : PrefixValue) → (((speaker_at old node).announces prefix ≡ true) ⊎ Lists configs node prefix) → Lists configs node prefix
    on prefix (inl was) = holds.announces node prefix was
    on prefix (inr lists) = lists

    heard : (prefix : PrefixValue) (from : Peer) (h : HeardValue) → (((speaker_at old node).heard_at prefix from ≡ Some h) ⊎ IsHeardFrom peer updates prefix from h) → is_heard prefix from h
    heard prefix from h (inl was) = holds.heard node prefix from h was
    heard prefix from h (inr new) = known prefix from h new
