-- Messages keep all selections current.
use Rattle.std.specs.Prelude.{◌≡◌, ℕ, Bool, true, false}
use Rattle.std.proofs.Common.{refl, sym, subst}
use Rattle.babel_value.specs.declared.keys.Peer.{Peer}
use Rattle.babel_message.specs.declared.placements.Content.{Content}
use Rattle.babel_message.specs.declared.placements.Content.TheVariants as contents
use Rattle.babel_state.specs.State.{State}
use Rattle.babel_state.specs.Messages.{handle_content}
use Rattle.babel_state.specs.CurrentSelections.{AreCurrent, AreRoutesInOrder}
use Rattle.babel_state.proofs.WellFormed.{message_current}

-- A speaker that was settled stays so, or it becomes so.
pub settled_or_not : (old new : Bool) (t : State) → (old ≡ true → AreCurrent t) → (old ≡ false → new ≡ true → AreCurrent t) → new ≡ true → AreCurrent t
settled_or_not true new t stays becomes is = stays refl
settled_or_not false new t stays becomes is = becomes refl is

pub content_current : (now : ℕ) (peer : Peer) (content : Content) (s t : State) → t ≡ (handle_content now peer content s).0 → AreRoutesInOrder s → AreCurrent s → AreCurrent t
content_current now peer (contents.Message m) s t is sorted current = subst AreCurrent (sym is) (λ p. message_current now peer m s sorted p (current p))
content_current now peer contents.State s t is sorted current = subst AreCurrent (sym is) current
content_current now peer (contents.Ignored reason) s t is sorted current = subst AreCurrent (sym is) current
