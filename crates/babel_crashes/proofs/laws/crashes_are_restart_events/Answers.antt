use Rattle.babel_crashes.proofs.Crashes.{crashes, lives}
use Rattle.babel_crashes.proofs.laws.crashes_are_restart_events.Goals as goal

pub returns-clause-once : goal.returns-clause-once
returns-clause-once c = crashes c.crashes_with_intakes_are_restart_events.ensures

pub returns-clause-again : goal.returns-clause-again
returns-clause-again c = lives (record {
  kept = c.networks_go_on.ensures.kept;
  named = c.sound_networks_have_no_loop.ensures.named;
  one_origin = c.sound_networks_have_no_loop.ensures.one_origin;
}) c.lives_are_events.ensures
