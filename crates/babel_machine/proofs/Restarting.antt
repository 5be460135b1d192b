-- A restart: a step of one speaker that drops its picks, and nothing else.
use Rattle.std.proofs.Common.{◌≡◌, ◌<◌, ℕ, ◌+◌, ◌%◌, List, None, refl, sym, ap, ◌∙◌, arith}
use Rattle.std.proofs.lemmas.Option.{none-some}
use Rattle.babel_value.specs.declared.keys.Peer.{Peer}
use Rattle.babel_value.specs.Prefixes.{PrefixValue}
use Rattle.babel_state.specs.declared.configs.Config.{Config}
use Rattle.babel_state.specs.Seen.{UpdateValue, HeardValue}
use Rattle.babel_machine.specs.Machine.{SourceState, with_pick}
use Rattle.babel_machine.specs.Happenings.{Restarts}
use Rattle.babel_machine.specs.Invariants.{WasSent, IsKnown, HoldsWith}
use Rattle.babel_machine.specs.NetworkLaws.{RestartsAreDrops}
use Rattle.babel_machine.specs.Owners.{AreApart}
use Rattle.babel_machine.specs.Views.{pick_of, view}
use Rattle.babel_machine.specs.Worlds.{World, speaker_at, with_speaker}
use Rattle.babel_machine.proofs.Beginning.{owned, owned_transport, selecting_none}
use Rattle.babel_machine.proofs.Moving.{Moved}
use Rattle.babel_machine.proofs.MovedRuns.{view_now}
use Rattle.babel_machine.proofs.Speakers.{each_speaker, length-view}
use Rattle.babel_machine.proofs.ViewRuns.{raised}

no_growth : (n : ℕ) → n < 65536 → n ≡ (n + 0) % 65536
no_growth n h = omega arith

pub moved_by_restart : (is_heard : PrefixValue → Peer → HeardValue → Type 0) (is_known : ℕ → UpdateValue → Type 0) (configs : List Config) (node : ℕ) (old new : World) → AreApart configs → HoldsWith is_heard is_known configs old → (h : Restarts configs node old new) → Moved is_heard configs node old h.speaker
moved_by_restart is_heard is_known configs node old new apart holds h = record {
  inside = h.inside;
  growths = 0;
  router = h.restarted.router ∙ sym (holds.router node h.config h.is);
  collects = h.restarted.collects ∙ apart.collection node h.config h.is ∙ sym (holds.collects node);
  transports = λ iface addr is. owned_transport configs node h.config iface addr apart h.is (sym (h.restarted.transports iface) ∙ is);
  addresses = λ iface family addr is. owned configs node h.config family iface addr apart h.is (sym (h.restarted.addresses iface family) ∙ is);
  seqno = h.restarted.seqno ∙ no_growth (speaker_at old node).seqno (holds.seqno node);
  raises = λ _. omega (arith, h.restarted.raises);
  announces = λ prefix is. (h.config, h.is, sym (h.restarted.announces prefix) ∙ is);
  sources = h.restarted.sources;
  heard = λ prefix peer heard is. absurd (none-some heard (sym (h.restarted.entries prefix peer) ∙ is));
  selecting = selecting_none h.speaker h.restarted.selected;
  others = λ prefix peer heard is. absurd (none-some heard (sym (h.restarted.entries prefix peer) ∙ is));
}

-- no router-id was raised
raises_kept : (configs : List Config) (node : ℕ) (old new : World) (h : Restarts configs node old new) (owner : ℕ) → (speaker_at (with_speaker old node h.speaker) owner).raises ≡ (speaker_at old owner).raises + 0
raises_kept configs node old new h owner =
    each_speaker (λ b x. x.raises ≡ (speaker_at old b).raises + 0) old node h.speaker h.inside (omega (arith, h.restarted.raises)) (λ b _. omega arith) owner

raised_not : (s : SourceState) → raised s 0 ≡ s
raised_not s = ap (λ n. record s { raises = n }) (same s.raises)
  where
    same : (n : ℕ) → n + 0 ≡ n
    same n = omega arith

pub restart_drops : RestartsAreDrops
restart_drops configs node now old new s apart inv h =
    (with_pick (view configs s old) node None, (rw (length-view configs s old) h.inside, refl), sym dropped)
  where
    after : SourceState
    after = view configs s (with_speaker old node h.speaker)

    dropped : with_pick (view configs s old) node None ≡ view configs s new
    dropped =
        ap (λ (v : SourceState). with_pick v node None) (sym (raised_not (view configs s old)))
        ∙ ap (with_pick (raised (view configs s old) 0) node) (ap (pick_of configs s) (sym (h.restarted.selected s.prefix)))
        ∙ view_now configs node old h.speaker (moved_by_restart (WasSent configs old.sent) (IsKnown configs) configs node old new apart inv.holds h) s 0 (raises_kept configs node old new h s.owner)
        ∙ ap (view configs s) (sym h.next)
