-- One more node, before those that the table has.
use Rattle.std.proofs.Common.{◌-◌, arith}
use Rattle.babel_owners.proofs.TableOwners.{owner_step}
use Rattle.babel_owners.proofs.owners.Owners.new.Goals as goal

pub loop-left-preserved : goal.loop-left-preserved
loop-left-preserved c =
    let it = c.index-configs-left in
    record {
      inside = omega arith;
      done = λ addr. owner_step c.args.configs.now (c.loop-left.left - 1) c.loop-left.left it.result addr _ _ (omega arith) (omega arith) it.is (c.loop-left.invariant.done addr) (c.in_ok-add_config.ensures addr);
    }
