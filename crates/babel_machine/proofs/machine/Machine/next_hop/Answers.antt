use Rattle.std.proofs.Common.{sym, ap, ◌∙◌, arith, option_and_then, slice_get, length, refl}
use Rattle.std.proofs.lemmas.Option.{slice_get_read}
use Rattle.babel_machine.specs.Cycle.{next_hop_of}
use Rattle.babel_machine.proofs.MachineCycle.{AllSound-no_cycle, AllSound-owner_has_no_pick}
use Rattle.babel_machine.proofs.machine.Machine.next_hop.Goals as goal

pub returns-then-source-len-clause-no_cycle : goal.returns-then-source-len-clause-no_cycle
returns-then-source-len-clause-no_cycle c = AllSound-no_cycle _ _ c.self.view_is c.self.invariant

pub returns-then-source-len-clause-owner_has_none : goal.returns-then-source-len-clause-owner_has_none
returns-then-source-len-clause-owner_has_none c = AllSound-owner_has_no_pick _ _ c.self.view_is c.self.invariant

pub returns-clause-returned : goal.returns-clause-returned
returns-clause-returned c =
    let sources = c.self.inside.sources in
    let read = slice_get_read sources.items (length sources.items) c.args.source c.index.result.now refl (omega (arith, sources.ok.0)) c.index.ensures in
    c.next_hop.ensures ∙ sym (ap (option_and_then (λ state. next_hop_of state c.args.node)) (ap (λ all. slice_get all c.args.source) (sym c.self.view_is) ∙ read))

pub returns-clause-no_cycle : goal.returns-clause-no_cycle
returns-clause-no_cycle c = AllSound-no_cycle _ _ c.self.view_is c.self.invariant

pub returns-clause-owner_has_none : goal.returns-clause-owner_has_none
returns-clause-owner_has_none c = AllSound-owner_has_no_pick _ _ c.self.view_is c.self.invariant
