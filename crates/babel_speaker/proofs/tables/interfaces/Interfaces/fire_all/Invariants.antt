use Rattle.std.proofs.Common.{◌≡◌, ◌++◌, map, take, drop, length}
use Rattle.babel_state.specs.Ticks.{fired}
use Rattle.babel_speaker.proofs.tables.interfaces.Interfaces.fire_all.Given as goal

abbrev pub invariant-loop-iface : goal.invariant-loop-iface
invariant-loop-iface l = record {
  mapped : take l.iface l.self ++ map (fired l.now) (drop l.iface l.self) ≡ map (fired l.now) l.fn.self;
  same : length l.self ≡ length l.fn.self;
}
