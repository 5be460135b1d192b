-- Speakers and views after one speaker has changed.
use Rattle.std.proofs.Common.{◌≡◌, ◌≢◌, ℕ, ◌<◌, ◌≤◌, List, Option, length, map, set, get_or, sym, ap, ◌∙◌, subst, inl, inr, arith}
use Rattle.std.specs.List.{range_with_len}
use Rattle.std.proofs.lemmas.List.{get_or-set_same, get_or-set_other, get_or_past, length-set}
use Rattle.std.proofs.lemmas.List.FromFn.{get_or-map-range_with_len, length-map-range_with_len, fill_by_all}
use Rattle.std.proofs.lemmas.Bool.{cases_eq}
use Rattle.babel_state.specs.Seen.{Seen}
use Rattle.babel_state.specs.declared.configs.Config.{Config}
use Rattle.babel_state.specs.declared.selected.Selected.{Selected}
use Rattle.babel_machine.specs.declared.machine.pick.Pick.{Pick}
use Rattle.babel_machine.specs.Machine.{SourceState, NodeState, node_at, quiet, with_node, with_pick}
use Rattle.babel_machine.specs.Worlds.{World, speaker_at, with_speaker, nothing}
use Rattle.babel_machine.specs.Views.{NetSource, sent_by, pick_of, node_view, view}

-- what holds of the speaker's new value, and of each other's old one, holds of each
pub each_speaker : (P : ℕ → Seen → Type 0) (w : World) (a : ℕ) (now : Seen) → a < length w.speakers → P a now → ((b : ℕ) → b ≢ a → P b (speaker_at w b)) → (b : ℕ) → P b (speaker_at (with_speaker w a now) b)
each_speaker P w a now inside here others b =
    elim (cases_eq b a) [ inl same ↦ subst (λ c. P c (speaker_at (with_speaker w a now) c)) (sym same) (subst (P a) (sym (get_or-set_same w.speakers a now nothing inside)) here) | inr other ↦ subst (P b) (sym (get_or-set_other w.speakers a b now nothing other)) (others b other) ]

pub speaker_now : (w : World) (a : ℕ) (now : Seen) → a < length w.speakers → speaker_at (with_speaker w a now) a ≡ now
speaker_now w a now inside = get_or-set_same w.speakers a now nothing inside

pub speaker_other : (w : World) (a : ℕ) (now : Seen) (b : ℕ) → b ≢ a → speaker_at (with_speaker w a now) b ≡ speaker_at w b
speaker_other w a now b other = get_or-set_other w.speakers a b now nothing other

-- a number past the speakers sees nothing
pub speaker_past : (w : World) (a : ℕ) → length w.speakers ≤ a → speaker_at w a ≡ nothing
speaker_past w a past = get_or_past w.speakers a nothing past

-- ---- pictures

-- a network as a state of the machine: with the pick that a selected route is, and with a count
abbrev pub picture_node : (Option Selected → Option Pick) → NetSource → World → ℕ → NodeState
picture_node pick s w node = record { sent = sent_by s w.sent node; pick = pick ((speaker_at w node).selected_at s.prefix) }

abbrev pub picture : (Option Selected → Option Pick) → NetSource → ℕ → World → SourceState
picture pick s raises w =
    record { owner = s.owner; raises = raises; nodes = map (picture_node pick s w) (range_with_len 0 (length w.speakers)) }

pub node_at-picture : (pick : Option Selected → Option Pick) (s : NetSource) (raises : ℕ) (w : World) (a : ℕ) → a < length w.speakers → node_at (picture pick s raises w) a ≡ picture_node pick s w a
node_at-picture pick s raises w a inside = get_or-map-range_with_len (picture_node pick s w) 0 (length w.speakers) a a quiet inside (omega arith)

pub length-picture : (pick : Option Selected → Option Pick) (s : NetSource) (raises : ℕ) (w : World) → length (picture pick s raises w).nodes ≡ length w.speakers
length-picture pick s raises w = length-map-range_with_len (picture_node pick s w) 0 (length w.speakers)

-- nodes of which one is written are a picture's nodes, if that one and each other is
pub written-picture : (pick : Option Selected → Option Pick) (s : NetSource) (w : World) (state : SourceState) (a : ℕ) (now : NodeState) → a < length state.nodes → length state.nodes ≡ length w.speakers → now ≡ picture_node pick s w a → ((b : ℕ) → b < length w.speakers → b ≢ a → node_at state b ≡ picture_node pick s w b) → (with_node state a now).nodes ≡ map (picture_node pick s w) (range_with_len 0 (length w.speakers))
written-picture pick s w state a now inside size here others =
    fill_by_all (picture_node pick s w) (set state.nodes a now) (length w.speakers) quiet (rw length-set size) each
  where
    each : (b : ℕ) → b < length w.speakers → get_or (set state.nodes a now) b quiet ≡ picture_node pick s w b
    each b within = elim (cases_eq b a) [ inl same ↦ subst (λ c. get_or (set state.nodes a now) c quiet ≡ picture_node pick s w c) (sym same) (get_or-set_same state.nodes a now quiet inside ∙ here) | inr other ↦ get_or-set_other state.nodes a b now quiet other ∙ others b within other ]

-- after a speaker has changed, its node has the pick of its selected route
pub picture_now : (pick : Option Selected → Option Pick) (s : NetSource) (raises node : ℕ) (old : World) (speaker : Seen) → node < length old.speakers → with_pick (picture pick s raises old) node (pick (speaker.selected_at s.prefix)) ≡ picture pick s raises (with_speaker old node speaker)
picture_now pick s raises node old speaker inside =
    ap (λ nodes. record (picture pick s raises old) { nodes = nodes }) (written-picture pick s (with_speaker old node speaker) (picture pick s raises old) node now (rw (length-picture pick s raises old) inside) size here others)
  where
    now : NodeState
    now = record (node_at (picture pick s raises old) node) { pick = pick (speaker.selected_at s.prefix) }

    size : length (picture pick s raises old).nodes ≡ length (with_speaker old node speaker).speakers
    size = length-picture pick s raises old ∙ sym (length-set old.speakers node speaker)

    here : now ≡ picture_node pick s (with_speaker old node speaker) node
    here =
        ap (λ (n : NodeState). record n { pick = pick (speaker.selected_at s.prefix) }) (node_at-picture pick s raises old node inside)
        ∙ ap (λ (x : Seen). record { sent = sent_by s old.sent node; pick = pick (x.selected_at s.prefix) }) (sym (speaker_now old node speaker inside))

    others : (b : ℕ) → b < length (with_speaker old node speaker).speakers → b ≢ node → node_at (picture pick s raises old) b ≡ picture_node pick s (with_speaker old node speaker) b
    others b within other =
        node_at-picture pick s raises old b (omega (arith, within, length-set old.speakers node speaker))
        ∙ ap (λ (x : Seen). record { sent = sent_by s old.sent b; pick = pick (x.selected_at s.prefix) }) (sym (speaker_other old node speaker b other))

-- the view of a node
pub node_at-view : (configs : List Config) (s : NetSource) (w : World) (a : ℕ) → a < length w.speakers → node_at (view configs s w) a ≡ node_view configs s w a
node_at-view configs s w a inside = node_at-picture (pick_of configs s) s (speaker_at w s.owner).raises w a inside

pub length-view : (configs : List Config) (s : NetSource) (w : World) → length (view configs s w).nodes ≡ length w.speakers
length-view configs s w = length-picture (pick_of configs s) s (speaker_at w s.owner).raises w
