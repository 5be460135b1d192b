use Rattle.babel_mixed.proofs.MixedNetworks.{first_is_mixed}
use Rattle.babel_mixed.proofs.laws.mixed_begin.Goals as goal

pub returns : goal.returns
returns c = first_is_mixed (record {
  apart = c.accepted_configs_are_apart.ensures;
  sound = c.networks_begin_sound.ensures.sound;
  new = c.selected_routes_are_good.ensures.new;
  well_formed = c.states_are_well_formed.ensures.new;
})
