use Rattle.babel_crashes.proofs.Crashes.{crashes_with_intakes}
use Rattle.babel_crashes.proofs.laws.crashes_with_intakes_are_restart_events.Goals as goal

pub returns : goal.returns
returns c = crashes_with_intakes (record {
  kept = c.networks_go_on.ensures.kept;
  named = c.sound_networks_have_no_loop.ensures.named;
  one_origin = c.sound_networks_have_no_loop.ensures.one_origin;
}) c.steps_are_events.ensures c.intakes_are_covered.ensures.covers
