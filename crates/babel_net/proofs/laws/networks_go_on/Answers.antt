use Rattle.babel_net.proofs.HappeningEvents.{happens}
use Rattle.babel_net.proofs.KeptNetworks.{kept}
use Rattle.babel_net.proofs.laws.networks_go_on.Goals as goal

pub returns-clause-happens : goal.returns-clause-happens
returns-clause-happens c = happens (record {
  places = c.calls_move.ensures.datagrams;
  tick = c.calls_move.ensures.tick;
  set_cost = c.calls_move.ensures.set_cost;
  announce = c.calls_move.ensures.announce;
  withdraw = c.calls_move.ensures.withdraw;
  raise = c.calls_move.ensures.raise;
  request_seqnos = c.calls_move.ensures.request_seqnos;
  lose_links = c.calls_move.ensures.lose_links;
  group_items = c.groups_keep_the_rest.ensures.moves;
  sent = c.datagrams_send.ensures.sent;
  none = c.datagrams_send.ensures.none;
  restart = c.restarts_are_seen.ensures.restarted;
})

pub returns-clause-kept : goal.returns-clause-kept
returns-clause-kept c = kept (record {
  speaker = record {
    places = c.calls_move.ensures.datagrams;
    tick = c.calls_move.ensures.tick;
    set_cost = c.calls_move.ensures.set_cost;
    announce = c.calls_move.ensures.announce;
    withdraw = c.calls_move.ensures.withdraw;
    raise = c.calls_move.ensures.raise;
    request_seqnos = c.calls_move.ensures.request_seqnos;
    lose_links = c.calls_move.ensures.lose_links;
    group_items = c.groups_keep_the_rest.ensures.moves;
    sent = c.datagrams_send.ensures.sent;
    none = c.datagrams_send.ensures.none;
    restart = c.restarts_are_seen.ensures.restarted;
  };
  tick = c.states_are_well_formed.ensures.tick;
  next_datagram = c.states_are_well_formed.ensures.next_datagram;
  set_cost = c.states_are_well_formed.ensures.set_cost;
  announce = c.states_are_well_formed.ensures.announce;
  withdraw = c.states_are_well_formed.ensures.withdraw;
  raise = c.states_are_well_formed.ensures.raise;
  request_seqnos = c.states_are_well_formed.ensures.request_seqnos;
  lose_links = c.states_are_well_formed.ensures.lose_links;
  group_items = c.groups_keep_the_rest.ensures.well_formed;
  restart = c.restarts_are_seen.ensures.restarted_well_formed;
  encodable = c.items_mean_messages.ensures.datagrams;
}) c.events_keep_the_invariant.ensures
