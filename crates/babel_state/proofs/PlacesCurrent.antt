-- The messages of a datagram keep each selection that is current.
use Rattle.std.specs.Prelude.{ℕ, [], ◌∷◌}
use Rattle.babel_value.specs.declared.keys.Peer.{Peer}
use Rattle.babel_message.specs.declared.placements.Content.{Content}
use Rattle.babel_message.specs.declared.placements.Content.TheVariants as contents
use Rattle.babel_state.specs.CurrentSelections.{AreRoutesInOrder, KeepsCurrent, PlacesKeepCurrent}
use Rattle.babel_state.specs.Messages.{handle_content}
use Rattle.babel_state.specs.State.{State}
use Rattle.babel_state.proofs.Hearing.{messages_heard}
use Rattle.babel_state.proofs.WellFormed.{message_current}

content_sorted : (now : ℕ) (peer : Peer) (content : Content) (s : State) → AreRoutesInOrder s → AreRoutesInOrder (handle_content now peer content s).0
content_sorted now peer (contents.Message message) s sorted = (messages_heard now peer message s sorted).0
content_sorted now peer contents.State s sorted = sorted
content_sorted now peer (contents.Ignored reason) s sorted = sorted

content_current : (now : ℕ) (peer : Peer) (content : Content) (s : State) → AreRoutesInOrder s → KeepsCurrent s (handle_content now peer content s).0
content_current now peer (contents.Message message) s sorted = message_current now peer message s sorted
content_current now peer contents.State s sorted = λ prefix current. current
content_current now peer (contents.Ignored reason) s sorted = λ prefix current. current

pub places_current : PlacesKeepCurrent
places_current now peer [] s sorted = λ prefix current. current
places_current now peer (x ∷ xs) s sorted = λ prefix current.
    places_current now peer xs (handle_content now peer x.content s).0 (content_sorted now peer x.content s sorted) prefix (content_current now peer x.content s sorted prefix current)
