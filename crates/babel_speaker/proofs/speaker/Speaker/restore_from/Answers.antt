-- What is restored is well formed.
use Rattle.std.proofs.Common.{refl, sym, subst}
use Rattle.babel_state.specs.Configs.{config_fault}
use Rattle.babel_state.specs.Invariants.{IsWellFormed}
use Rattle.babel_speaker.proofs.speaker.Speaker.restore_from.Goals as goal
use Rattle.babel_speaker.proofs.CallLaws.{none_if_false}

pub over-requires : goal.over-requires
over-requires c = record {
  well_formed =
      subst IsWellFormed (sym c.in-Ok.ensures.ok)
      (c.restarts_are_seen.ensures.restored_well_formed c.args.now c.args.config.now _ (none_if_false (config_fault c.args.config.now) (c.in-Ok.ensures.valid refl)) c.in-Ok.ensures.snapshot);
}
