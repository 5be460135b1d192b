use Rattle.babel_crashes.proofs.IntakeEvents.{steps_are_events}
use Rattle.babel_crashes.proofs.laws.steps_are_events.Goals as goal

pub returns : goal.returns
returns c = steps_are_events (record {
  messages = c.settings_stay.ensures.messages;
  tick = c.settings_stay.ensures.tick;
  sending = c.settings_stay.ensures.next_datagram;
  requesting = c.settings_stay.ensures.request_seqnos;
  losing = c.settings_stay.ensures.lose_links;
  grouping = c.groups_keep_the_rest.ensures.settings;
})
