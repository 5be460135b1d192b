-- Requests leave the selected routes as they are.
use Rattle.babel_speaker.proofs.RequestsKept.{route_request_kept, dump_request_kept, seqno_request_kept}
use Rattle.babel_speaker.proofs.input.messages.handle_from_neighbour.Goals as goal

pub returns-in-RouteRequest-clause-kept : goal.returns-in-RouteRequest-clause-kept
returns-in-RouteRequest-clause-kept c unchanged =
    route_request_kept _ _ c.args.core.now c.handle_route_request.new.self c.handle_route_request.result c.handle_route_request.ensures

pub returns-in-DumpRequest-clause-kept : goal.returns-in-DumpRequest-clause-kept
returns-in-DumpRequest-clause-kept c unchanged =
    dump_request_kept _ c.args.core.now c.handle_dump_request.new.self c.handle_dump_request.result c.handle_dump_request.ensures

pub returns-in-SeqnoRequest-clause-kept : goal.returns-in-SeqnoRequest-clause-kept
returns-in-SeqnoRequest-clause-kept c unchanged =
    seqno_request_kept _ _ _ _ _ c.args.core.now c.handle_seqno_request.new.self c.handle_seqno_request.result c.handle_seqno_request.ensures
