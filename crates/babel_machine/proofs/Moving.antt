-- What a step of one speaker that sends nothing keeps, and which machine steps it is.
use Rattle.std.proofs.Common.{◌≡◌, ◌<◌, ◌≤◌, ℕ, ◌+◌, ◌%◌, true, false, List, Some, length, Contains, All, slice_get, refl, sym, ◌∙◌, subst, arith}
use Rattle.std.proofs.lemmas.List.{length-set}
use Rattle.std.proofs.lemmas.Option.{same_Some}
use Rattle.babel_value.specs.declared.addresses.Addr.{Addr}
use Rattle.babel_value.specs.declared.addresses.Family.{Family}
use Rattle.babel_value.specs.declared.keys.Peer.{Peer}
use Rattle.babel_value.specs.Prefixes.{PrefixValue}
use Rattle.babel_sources.specs.Distances.{is_feasible}
use Rattle.babel_state.specs.declared.configs.Config.{Config}
use Rattle.babel_state.specs.Seen.{Seen, UpdateValue, HeardValue, IsSelecting, NamesOthers, heard_of}
use Rattle.babel_state.specs.declared.selected.Selected.{Selected}
use Rattle.babel_machine.specs.declared.machine.pair.Pair.{Pair}
use Rattle.babel_machine.specs.declared.machine.pick.Pick.{Pick}
use Rattle.babel_machine.specs.Machine.{NodeState, HasSent, MayPick, IsBetterPair}
use Rattle.babel_machine.specs.Owners.{owner_of, Lists}
use Rattle.babel_machine.specs.Worlds.{World, speaker_at, with_speaker}
use Rattle.babel_machine.specs.Views.{NetSource, lifted, sent_by, pick_of, view}
use Rattle.babel_machine.specs.Invariants.{WasSent, HoldsWith, Holds, HoldsFor, Bounds, update_heard}
use Rattle.babel_machine.proofs.Circular.{IsReached}
use Rattle.babel_machine.proofs.SourceEntries.{feasible_better}
use Rattle.babel_machine.proofs.Speakers.{each_speaker, node_at-view}
use Rattle.babel_machine.proofs.ViewRuns.{raised}
use Rattle.babel_machine.proofs.Picking.{owner_within, sent_by-update, IsPicked, picked_from}

-- a step of one speaker that sends nothing: what the network needs of it
pub record Moved (is_heard : PrefixValue → Peer → HeardValue → Type 0) (configs : List Config) (node : ℕ) (old : World) (speaker : Seen) : Type 0 where
  pub inside : node < length old.speakers
  pub growths : ℕ
  pub router : speaker.router ≡ (speaker_at old node).router
  pub collects : speaker.collects ≡ (speaker_at old node).collects
  pub transports : (iface : ℕ) (addr : Addr) → speaker.transport_at iface ≡ Some addr → owner_of configs addr ≡ Some node
  pub addresses : (iface : ℕ) (family : Family) (addr : Addr) → speaker.address_at iface family ≡ Some addr → owner_of configs addr ≡ Some node
  pub seqno : speaker.seqno ≡ ((speaker_at old node).seqno + growths) % 65536
  pub raises : speaker.raises ≤ 32767 → speaker.raises ≡ (speaker_at old node).raises + growths
  pub announces : (prefix : PrefixValue) → speaker.announces prefix ≡ true → Lists configs node prefix
  pub sources : (prefix : PrefixValue) (router : List ℕ) → speaker.source_at prefix router ≡ (speaker_at old node).source_at prefix router
  pub heard : (prefix : PrefixValue) (peer : Peer) (h : HeardValue) → speaker.heard_at prefix peer ≡ Some h → is_heard prefix peer h
  pub selecting : IsSelecting speaker
  pub others : NamesOthers speaker

pub Holds-moved : (is_heard : PrefixValue → Peer → HeardValue → Type 0) (is_known : ℕ → UpdateValue → Type 0) (configs : List Config) (node : ℕ) (old : World) (speaker : Seen) (m : Moved is_heard configs node old speaker) → HoldsWith is_heard is_known configs old → HoldsWith is_heard is_known configs (with_speaker old node speaker)
Holds-moved is_heard is_known configs node old speaker m holds = record {
  size = rw length-set holds.size;
  router = each_speaker (λ b x. (c : Config) → slice_get configs b ≡ Some c → x.router ≡ c.router_id) old node speaker m.inside (λ c is. m.router ∙ holds.router node c is) (λ b _. holds.router b);
  collects = each_speaker (λ b x. x.collects ≡ false) old node speaker m.inside (m.collects ∙ holds.collects node) (λ b _. holds.collects b);
  transports = each_speaker (λ b x. (iface : ℕ) (addr : Addr) → x.transport_at iface ≡ Some addr → owner_of configs addr ≡ Some b) old node speaker m.inside m.transports (λ b _. holds.transports b);
  addresses = each_speaker (λ b x. (iface : ℕ) (family : Family) (addr : Addr) → x.address_at iface family ≡ Some addr → owner_of configs addr ≡ Some b) old node speaker m.inside m.addresses (λ b _. holds.addresses b);
  seqno = each_speaker (λ b x. x.seqno < 65536) old node speaker m.inside (omega (arith, m.seqno)) (λ b _. holds.seqno b);
  announces = each_speaker (λ b x. (prefix : PrefixValue) → x.announces prefix ≡ true → Lists configs b prefix) old node speaker m.inside m.announces (λ b _. holds.announces b);
  heard = each_speaker (λ b x. (prefix : PrefixValue) (peer : Peer) (h : HeardValue) → x.heard_at prefix peer ≡ Some h → is_heard prefix peer h) old node speaker m.inside m.heard (λ b _. holds.heard b);
  selecting = each_speaker (λ b x. IsSelecting x) old node speaker m.inside m.selecting (λ b _. holds.selecting b);
  others = each_speaker (λ b x. NamesOthers x) old node speaker m.inside m.others (λ b _. holds.others b);
  sources = holds.sources;
  updates = holds.updates;
}

-- how often the source's count grew
pub record Grew (old now : Seen) : Type 0 where
  pub growths : ℕ
  pub raises : now.raises ≡ old.raises + growths
  pub seqno : now.seqno ≡ (old.seqno + growths) % 65536

pub grew : (configs : List Config) (node : ℕ) (old : World) (speaker : Seen) (m : Moved (WasSent configs old.sent) configs node old speaker) (owner : ℕ) → Holds configs old → (speaker_at (with_speaker old node speaker) owner).raises ≤ 32767 → Grew (speaker_at old owner) (speaker_at (with_speaker old node speaker) owner)
grew configs node old speaker m owner holds =
    each_speaker (λ b x. x.raises ≤ 32767 → Grew (speaker_at old b) x) old node speaker m.inside here (λ b _ _. record { growths = 0; raises = omega arith; seqno = omega (arith, holds.seqno b) }) owner
  where
    here : speaker.raises ≤ 32767 → Grew (speaker_at old node) speaker
    here le = record { growths = m.growths; raises = m.raises le; seqno = m.seqno }

pub source_kept : (is_heard : PrefixValue → Peer → HeardValue → Type 0) (configs : List Config) (node : ℕ) (old : World) (speaker : Seen) (m : Moved is_heard configs node old speaker) → (prefix : PrefixValue) (router : List ℕ) (b : ℕ) → (speaker_at (with_speaker old node speaker) b).source_at prefix router ≡ (speaker_at old b).source_at prefix router
source_kept is_heard configs node old speaker m prefix router =
    each_speaker (λ b x. x.source_at prefix router ≡ (speaker_at old b).source_at prefix router) old node speaker m.inside (m.sources prefix router) (λ b _. refl)

-- the node's selected route is better than all that the node sent for its source
pub better_than_all : (is_heard : PrefixValue → Peer → HeardValue → Type 0) (configs : List Config) (node : ℕ) (old : World) (speaker : Seen) (m : Moved is_heard configs node old speaker) (s : NetSource) (raises : ℕ) (c : Selected) → s.start < 65536 → raises ≤ 32767 → speaker.selected_at s.prefix ≡ Some c → c.router ≡ s.router → IsReached s raises c.distance → Bounds s raises ((speaker_at old node).source_at s.prefix s.router) (sent_by s old.sent node) → All (λ own. IsBetterPair (lifted s c.distance) own) (sent_by s old.sent node)
better_than_all is_heard configs node old speaker m s raises c start counted is router reached bounds =
    feasible_better s raises ((speaker_at old node).source_at s.prefix s.router) (sent_by s old.sent node) c.distance start counted reached (omega (arith, above.0, above.1)) (subst (λ o. is_feasible o c.distance ≡ true) (m.sources s.prefix s.router) (subst (λ r. is_feasible (speaker.source_at s.prefix r) c.distance ≡ true) router (m.selecting.feasible s.prefix c is))) bounds
  where
    above : (c.distance.metric < c.metric) × (c.metric < 65535)
    above = m.selecting.above s.prefix c is

-- the node's selected route may be picked
pub may_pick : (configs : List Config) (node : ℕ) (old : World) (speaker : Seen) (m : Moved (WasSent configs old.sent) configs node old speaker) (s : NetSource) (j : ℕ) (k : Pick) → Holds configs old → HoldsFor configs s old → s.start < 65536 → (speaker_at old s.owner).raises ≤ 32767 → pick_of configs s (speaker.selected_at s.prefix) ≡ Some k → MayPick (raised (view configs s old) j) node k.from k.pair
may_pick configs node old speaker m s j k holds for_s start counted is = record {
  sent = sent;
  better = subst (λ (n : NodeState). All (λ own. IsBetterPair k.pair own) n.sent) (sym (node_at-view configs s old node m.inside)) better;
}
  where
    p : IsPicked configs s (speaker.selected_at s.prefix) k
    p = picked_from configs s (speaker.selected_at s.prefix) k is

    was : WasSent configs old.sent s.prefix p.route.peer (heard_of p.route)
    was = m.heard s.prefix p.route.peer (heard_of p.route) (m.selecting.entry s.prefix p.route p.is)

    same : was.node ≡ k.from
    same = same_Some was.node k.from (sym was.neighbour ∙ p.from)

    within : k.from < length old.speakers
    within = omega (arith, owner_within configs p.route.peer.addr k.from p.from, holds.size)

    sent_pair : Contains (sent_by s old.sent k.from) k.pair
    sent_pair = subst (λ n. Contains (sent_by s old.sent n) k.pair) same (subst (Contains (sent_by s old.sent was.node)) p.pair (sent_by-update s old.sent was.node (update_heard s.prefix (heard_of p.route)) was.recorded refl (sym p.router)))

    sent : HasSent (view configs s old) k.from k.pair
    sent = subst (λ (n : NodeState). Contains n.sent k.pair) (sym (node_at-view configs s old k.from within)) sent_pair

    reached : IsReached s (speaker_at old s.owner).raises p.route.distance
    reached = record {
      word = (holds.updates was.node (update_heard s.prefix (heard_of p.route)) was.recorded).seqno;
      reached = subst (λ (q : Pair). q.raises ≤ (speaker_at old s.owner).raises) (sym p.pair) (for_s.sound.counted k.from k.pair sent);
    }

    better : All (λ own. IsBetterPair k.pair own) (sent_by s old.sent node)
    better = subst (λ (q : Pair). All (λ own. IsBetterPair q own) (sent_by s old.sent node)) p.pair (better_than_all (WasSent configs old.sent) configs node old speaker m s (speaker_at old s.owner).raises p.route start counted p.is p.router reached (for_s.bounds node))
