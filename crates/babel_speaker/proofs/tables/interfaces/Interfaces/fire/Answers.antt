use Rattle.std.proofs.Common.{sym, ◌∙◌, ap, slice_set}
use Rattle.babel_state.specs.Ticks.{fired}
use Rattle.babel_speaker.proofs.Firing.{one_mapped}
use Rattle.babel_speaker.proofs.tables.interfaces.Interfaces.fire.Goals as goal

pub returns-clause-mapped : goal.returns-clause-mapped
returns-clause-mapped c = one_mapped (fired c.args.now) c.args.self.now c.set.new.self c.args.iface c.in-Some.interface (sym c.in-Some.ensures.interface) (c.set.ensures ∙ ap (slice_set c.args.self.now c.args.iface) c.fired.ensures)
