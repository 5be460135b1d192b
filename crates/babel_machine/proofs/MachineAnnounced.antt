-- What a node announces under a metric is what it may send under it.
use Rattle.std.proofs.Common.{◌≡◌, ℕ, ◌<◌, Some, length, get_or, set, sym, ap, ◌∙◌, subst, arith}
use Rattle.std.proofs.lemmas.List.{get_or_default}
use Rattle.std.proofs.lemmas.Bool.Decides.{nat_tests}
use Rattle.babel_machine.specs.declared.machine.pair.Pair.{Pair}
use Rattle.babel_machine.specs.Machine.{SourceState, NodeState, MaySend, Adds, Announces, node_at, quiet}
use Rattle.babel_machine.specs.MachineRefusals.{announced}

pub announced_may : (s : SourceState) (a m : ℕ) (pair : Pair) → announced s a m ≡ Some pair → (pair.metric ≡ m) × MaySend s a pair
announced_may s a m pair is = grind (arith, nat_tests, is)

-- a node that is read at its number is announced for, and written there
pub announces_at : (s : SourceState) (a m : ℕ) (pair : Pair) (old new : NodeState) → a < length s.nodes → old ≡ get_or s.nodes a old → announced s a m ≡ Some pair → Adds pair old.sent new.sent → new ≡ record old { sent = new.sent } → Announces s a m (record s { nodes = set s.nodes a new })
announces_at s a m pair old new inside read is adds kept =
    let here : node_at s a ≡ old = get_or_default s.nodes a quiet old inside ∙ sym read in
    let may = announced_may s a m pair is in
    record {
      inside = inside;
      pair = pair;
      under = may.0;
      may = may.1;
      sent = new.sent;
      adds = subst (λ (n : NodeState). Adds pair n.sent new.sent) (sym here) adds;
      next = ap (λ (n : NodeState). record s { nodes = set s.nodes a n }) (kept ∙ ap (λ (n : NodeState). record n { sent = new.sent }) (sym here));
    }
