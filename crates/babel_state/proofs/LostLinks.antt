-- Links that are lost change what an IHU changes.
use Rattle.std.proofs.Common.{◌≡◌, ◌⊎◌, ℕ, List, [], ◌∷◌, Some, None, refl, sym, ap, ◌∙◌, inl, inr}
use Rattle.babel_value.specs.declared.keys.Peer.{Peer}
use Rattle.babel_value.specs.Metrics.{infinity}
use Rattle.babel_value.specs.Prefixes.{PrefixValue}
use Rattle.babel_state.specs.State.{State}
use Rattle.babel_state.specs.Messages.{handle_message}
use Rattle.babel_state.specs.LostLinks.{peers_on, deaf, link_lost, each_lost, links_lost}
use Rattle.babel_state.specs.CurrentSelections.{AreRoutesInOrder, KeepsCurrent, LosingKeepsCurrent}
use Rattle.babel_state.specs.Invariants.{IsWellFormed, LosingKeepsWellFormed}
use Rattle.babel_state.specs.Seen.{seen, HeardValue, heard_at, IsHeardFrom}
use Rattle.babel_state.specs.SeenLaws.{LosingMoves}
use Rattle.babel_state.specs.StepLaws.{OwnValue, own_of, LosingKeepsOwn, LosingKeepsSettings}
use Rattle.babel_state.proofs.Hearing.{messages_heard}
use Rattle.babel_state.proofs.Keeping.{if_step, ihu_own}
use Rattle.babel_state.proofs.Moving.{announced_in, kept_move, moves_alone}
use Rattle.babel_state.proofs.OwnRouters.{nothing_in}
use Rattle.babel_state.proofs.SeeingLaws.{well_selecting}
use Rattle.babel_state.proofs.WellFormed.{message_well, message_current}

-- ---- what is the speaker's own

lost_own : (now : ℕ) (peer : Peer) (s : State) → own_of (link_lost now peer s) ≡ own_of s
unfolding handle_message
lost_own now peer s = if_step _ _ _ _ (ihu_own now peer None infinity 1 s) refl

each_own : (now : ℕ) (peers : List Peer) (s : State) → own_of (each_lost now peers s) ≡ own_of s
each_own now [] s = refl
each_own now (peer ∷ peers) s = each_own now peers (link_lost now peer s) ∙ lost_own now peer s

pub losing_own : LosingKeepsOwn
unfolding links_lost
losing_own now iface s = each_own now (peers_on iface s.neighbours) s

pub losing_settings : LosingKeepsSettings
unfolding own_of
losing_settings now iface s = ap (λ (o : OwnValue). o.interfaces) (losing_own now iface s)

-- ---- the tables

each_well : (now : ℕ) (peers : List Peer) (s : State) → IsWellFormed s → IsWellFormed (each_lost now peers s)
each_well now [] s well = well
each_well now (peer ∷ peers) s well = each_well now peers (link_lost now peer s) (message_well now peer deaf s refl well)

pub losing_well : LosingKeepsWellFormed
unfolding links_lost
losing_well now iface s well = each_well now (peers_on iface s.neighbours) s well

each_current : (now : ℕ) (peers : List Peer) (s : State) → AreRoutesInOrder s → KeepsCurrent s (each_lost now peers s)
each_current now [] s sorted prefix current = current
each_current now (peer ∷ peers) s sorted prefix current =
    each_current now peers (link_lost now peer s) (messages_heard now peer deaf s sorted).0 prefix (message_current now peer deaf s sorted prefix current)

pub losing_current : LosingKeepsCurrent
unfolding links_lost
losing_current now iface s sorted = each_current now (peers_on iface s.neighbours) s sorted

-- ---- what a network sees

each_heard : (now : ℕ) (peers : List Peer) (s : State) → AreRoutesInOrder s → (prefix : PrefixValue) (from : Peer) (h : HeardValue) →
    heard_at prefix from (each_lost now peers s) ≡ Some h → heard_at prefix from s ≡ Some h
each_heard now [] s sorted prefix from h is = is
each_heard now (peer ∷ peers) s sorted prefix from h is =
    by ((messages_heard now peer deaf s sorted).1 prefix from h (each_heard now peers (link_lost now peer s) (messages_heard now peer deaf s sorted).0 prefix from h is))
  where
    by : (heard_at prefix from s ≡ Some h) ⊎ IsHeardFrom peer [] prefix from h → heard_at prefix from s ≡ Some h
    by (inl there) = there
    by (inr came) = absurd (nothing_in _ came.1)

pub losing_moves : LosingMoves
unfolding links_lost seen
losing_moves now iface s well peer =
    moves_alone peer 0 (announced_in s) s (links_lost now iface s)
    (kept_move s (links_lost now iface s) well (losing_own now iface s))
    (λ prefix from h is. inl (each_heard now (peers_on iface s.neighbours) s well.tables.routes.entries_in_order prefix from h is))
    (well_selecting (links_lost now iface s) (losing_well now iface s well))
