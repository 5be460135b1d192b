-- What is returned is what the record took.
use Rattle.std.proofs.Common.{◌≡◌, ℕ, Option, Some, Result, Ok, IfOk, length, get_or, slice_get, sym, subst, ◌∙◌}
use Rattle.std.proofs.lemmas.Option.{same_Some}
use Rattle.babel_state.specs.declared.items.Target.{Target}
use Rattle.babel_state.specs.State.{State}
use Rattle.babel_net.specs.declared.nodes.Emitted.{Emitted}
use Rattle.babel_net.specs.Emitting.{IsEmitted}
use Rattle.babel_net.specs.Networks.{NetworkState}
use Rattle.babel_speaker.specs.Sending.{draft_at}
use Rattle.babel_net.proofs.CallFaults.{speaker_read}
use Rattle.babel_net.proofs.nodes.Nodes.record_next.Goals.{in-Ok-Some, in-Ok-None, in-Err}
use Rattle.babel_net.proofs.nodes.Nodes.record_next.Goals as goal

goes_to : {E : Type 0} (now : ℕ) (s speaker : State) (target : Option Target) (r : Result (Option Target) E) → s ≡ speaker → r ≡ Ok target →
    IfOk r (λ t. t ≡ (draft_at now s).target) → (draft_at now speaker).target ≡ target
goes_to now s speaker target r same is goes =
    subst (λ (t : State). (draft_at now t).target ≡ target) same (sym (subst (λ r. IfOk r (λ t. t ≡ (draft_at now s).target)) is goes))

pub returns-clause-emitted : goal.returns-clause-emitted
returns-clause-emitted c =
    let n = c.args.self.now in
    let s : State = c.index_mut.result.now in
    let here = speaker_read n c.args.node s c.requires.inside (subst (λ (m : NetworkState). s ≡ get_or m.speakers c.args.node s) c.self.view_is c.index_mut.ensures.value) in
    let number = subst (λ (m : NetworkState). c.count-number.result ≡ length m.sent) c.self.view_is c.count-number.ensures in
    let Emits : Option Emitted → Type 0 = λ emitted. (speaker : State) → slice_get n.speakers c.args.node ≡ Some speaker → IsEmitted c.args.now speaker n emitted in
    elim c.match-record_next.branch [
      | in-Ok-Some w ↦ subst (λ r. IfOk r Emits) (sym w.result-is) (λ speaker at. (number, goes_to c.args.now s speaker w.in-Ok-Some.field-0 c.record_next.result (same_Some s speaker (sym here ∙ at)) w.in-Ok-Some.is c.record_next.ensures.target ∙ w.in-Ok-Some.field-0-is))
      | in-Ok-None w ↦ subst (λ r. IfOk r Emits) (sym w.result-is) (λ speaker at. goes_to c.args.now s speaker w.in-Ok-None.field-0 c.record_next.result (same_Some s speaker (sym here ∙ at)) w.in-Ok-None.is c.record_next.ensures.target ∙ w.in-Ok-None.field-0-is)
      | in-Err w ↦ subst (λ r. IfOk r Emits) (sym w.result-is) tt
    ]
