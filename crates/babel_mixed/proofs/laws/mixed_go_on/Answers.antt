use Rattle.babel_mixed.proofs.MixedNetworks.{mixed_after, mixed_heard}
use Rattle.babel_mixed.proofs.laws.mixed_go_on.Goals as goal

pub returns-clause-events : goal.returns-clause-events
returns-clause-events c = mixed_after (record {
  state = record {
    speaker = record {
      places = c.calls_move.ensures.datagrams;
      tick = c.calls_move.ensures.tick;
      set_cost = c.calls_move.ensures.set_cost;
      announce = c.calls_move.ensures.announce;
      withdraw = c.calls_move.ensures.withdraw;
      raise = c.calls_move.ensures.raise;
      request_seqnos = c.calls_move.ensures.request_seqnos;
      lose_links = c.calls_move.ensures.lose_links;
      group_items = c.groups_keep_the_rest.ensures.moves;
      sent = c.datagrams_send.ensures.sent;
      none = c.datagrams_send.ensures.none;
      restart = c.restarts_are_seen.ensures.restarted;
    };
    tick = c.states_are_well_formed.ensures.tick;
    next_datagram = c.states_are_well_formed.ensures.next_datagram;
    set_cost = c.states_are_well_formed.ensures.set_cost;
    announce = c.states_are_well_formed.ensures.announce;
    withdraw = c.states_are_well_formed.ensures.withdraw;
    raise = c.states_are_well_formed.ensures.raise;
    request_seqnos = c.states_are_well_formed.ensures.request_seqnos;
    lose_links = c.states_are_well_formed.ensures.lose_links;
    group_items = c.groups_keep_the_rest.ensures.well_formed;
    restart = c.restarts_are_seen.ensures.restarted_well_formed;
    encodable = c.items_mean_messages.ensures.datagrams;
  };
  sendable = c.decoded_are_sendable.ensures;
  among = c.networks_among_foreign_routers_are_sound.ensures;
})

pub returns-clause-hearing : goal.returns-clause-hearing
returns-clause-hearing c = mixed_heard (record {
  state = record {
    speaker = record {
      places = c.calls_move.ensures.datagrams;
      tick = c.calls_move.ensures.tick;
      set_cost = c.calls_move.ensures.set_cost;
      announce = c.calls_move.ensures.announce;
      withdraw = c.calls_move.ensures.withdraw;
      raise = c.calls_move.ensures.raise;
      request_seqnos = c.calls_move.ensures.request_seqnos;
      lose_links = c.calls_move.ensures.lose_links;
      group_items = c.groups_keep_the_rest.ensures.moves;
      sent = c.datagrams_send.ensures.sent;
      none = c.datagrams_send.ensures.none;
      restart = c.restarts_are_seen.ensures.restarted;
    };
    tick = c.states_are_well_formed.ensures.tick;
    next_datagram = c.states_are_well_formed.ensures.next_datagram;
    set_cost = c.states_are_well_formed.ensures.set_cost;
    announce = c.states_are_well_formed.ensures.announce;
    withdraw = c.states_are_well_formed.ensures.withdraw;
    raise = c.states_are_well_formed.ensures.raise;
    request_seqnos = c.states_are_well_formed.ensures.request_seqnos;
    lose_links = c.states_are_well_formed.ensures.lose_links;
    group_items = c.groups_keep_the_rest.ensures.well_formed;
    restart = c.restarts_are_seen.ensures.restarted_well_formed;
    encodable = c.items_mean_messages.ensures.datagrams;
  };
  sendable = c.decoded_are_sendable.ensures;
  among = c.networks_among_foreign_routers_are_sound.ensures;
})
