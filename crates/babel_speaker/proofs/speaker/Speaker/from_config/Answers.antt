-- The first state of a configuration without a fault is well formed.
use Rattle.std.proofs.Common.{refl, sym, subst}
use Rattle.babel_state.specs.Configs.{config_fault}
use Rattle.babel_state.specs.Invariants.{IsWellFormed}
use Rattle.babel_speaker.proofs.speaker.Speaker.from_config.Goals as goal
use Rattle.babel_speaker.proofs.CallLaws.{none_if_false}

pub over-requires : goal.over-requires
over-requires c = record {
  well_formed =
      subst IsWellFormed (sym c.in-Ok.ensures.ok)
      (c.states_are_well_formed.ensures.new c.args.config.now c.seqno_fits.ensures (none_if_false (config_fault c.args.config.now) (c.in-Ok.ensures.valid refl)));
}
