use Rattle.std.proofs.Common.{arith}
use Rattle.babel_machine.proofs.MachineLift.{IsRead, lifted_ok, lifted_allowed, lifted_refused, lifted_sound}
use Rattle.babel_machine.proofs.machine.Machine.step.Goals as goal

is_read : (c : goal.After-self-1) → IsRead c.args.self.now c.self.inside.sources.items c.args.source c.index_mut.result.now
is_read c = record {
  is = c.self.view_is;
  inside = omega (arith, c.self.inside.sources.ok.0);
  read = c.index_mut.ensures.value;
  sound = c.self.invariant;
}

pub invariant_of-self : goal.invariant_of-self
invariant_of-self c = lifted_sound _ _ _ _ _ c.args.step _ (is_read c) c.step.ensures.ok c.step.ensures.err

pub returns-clause-ok : goal.returns-clause-ok
returns-clause-ok c = lifted_ok _ _ _ _ _ c.args.step _ (is_read c) c.step.ensures.ok

pub returns-clause-allowed : goal.returns-clause-allowed
returns-clause-allowed c = lifted_allowed _ _ _ _ _ c.args.step _ (is_read c) c.step.ensures.ok c.step.ensures.room

pub returns-clause-refused : goal.returns-clause-refused
returns-clause-refused c = lifted_refused _ _ _ _ c.args.step _ (is_read c) c.step.ensures.refused
