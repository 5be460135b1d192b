-- The lines of the reports, without their line feed (profile). Numbers are decimal, and one blank separates two fields.
use Rattle.std.specs.Prelude.{ℕ, List, [], ◌∷◌, ◌++◌, Option, Some, None, codes}
use Rattle.std.specs.Option.{option_map_or}
use Rattle.std.specs.Fmt.{decimal}
use Rattle.babel_value.specs.declared.distances.Distance.{Distance}
use Rattle.babel_value.specs.declared.keys.Peer.{Peer}
use Rattle.babel_value.specs.Prefixes.{PrefixValue}
use Rattle.babel_value.specs.Texts.{addr_text, prefix_text, router_text}
use Rattle.babel_message.specs.declared.placements.Content.{Content}
use Rattle.babel_message.specs.declared.placements.Content.TheVariants as contents
use Rattle.babel_message.specs.declared.placements.Placed.{Placed}
use Rattle.babel_message.specs.Texts.{placed_text, reason_text, refusal_code}
use Rattle.babel_state.specs.declared.errors.RecvFault.{RecvFault}
use Rattle.babel_state.specs.declared.errors.RecvFault.TheVariants as refusals
use Rattle.babel_state.specs.declared.errors.SetCostFault.{SetCostFault}
use Rattle.babel_state.specs.declared.items.Target.{Target}
use Rattle.babel_state.specs.declared.notes.Verdict.{Verdict}
use Rattle.babel_state.specs.declared.notes.Verdict.TheVariants as verdicts
use Rattle.babel_state.specs.Codes.{recv_code, set_cost_code}
use Rattle.babel_state.specs.declared.selected.Choice.{Choice}
use Rattle.babel_replay.specs.declared.lines.routes.RouteLine.{RouteLine}
use Rattle.babel_replay.specs.declared.lines.routes.RouteStatus.{RouteStatus}
use Rattle.babel_replay.specs.declared.lines.routes.RouteStatus.TheVariants as statuses

-- A text with its line feed.
abbrev pub line : List ℕ → List ℕ
line text = text ++ 10 ∷ []

-- a seqno and a metric
abbrev pub distance_text : Distance → List ℕ
distance_text d = decimal d.seqno ++ codes " " ++ decimal d.metric

-- what became of a message
abbrev pub verdict_text : Verdict → List ℕ
verdict_text verdicts.State = codes "state"
verdict_text (verdicts.Ignored reason) = codes "ignored " ++ reason_text reason
verdict_text verdicts.Taken = codes "V1"
verdict_text (verdicts.Unfeasible d) = codes "V2 " ++ distance_text d
verdict_text verdicts.OwnRouterId = codes "V3"
verdict_text verdicts.UnknownNeighbour = codes "V4"
verdict_text verdicts.TableFull = codes "V5"
verdict_text verdicts.OtherAddress = codes "V6"
verdict_text verdicts.NoEntry = codes "V7"
verdict_text verdicts.Redundant = codes "V8"
verdict_text verdicts.NotForwarded = codes "V9"

-- A message has a verdict after it.
abbrev pub verdict_after : Content → Verdict → List ℕ
verdict_after (contents.Message message) verdict = codes " " ++ verdict_text verdict
verdict_after contents.State verdict = codes ""
verdict_after (contents.Ignored reason) verdict = codes ""

-- The line of a TLV: the moment, and what became of it.
abbrev pub moment_text : ℕ → List ℕ
moment_text time = decimal time ++ codes " "

abbrev pub tlv_line : Placed → Verdict → List ℕ
tlv_line placed verdict = line (placed_text placed ++ verdict_after placed.content verdict)

-- the greatest number of octets of a moment: 20 digits and a blank
abbrev pub longest_moment : ℕ
longest_moment = 21

-- a refused datagram, with the offset after P5
abbrev pub refusal_text : RecvFault → List ℕ
refusal_text (refusals.Refused refusal) = refusal_code refusal
refusal_text fault = recv_code fault

abbrev pub refused_text : ℕ → RecvFault → List ℕ
refused_text time fault = decimal time ++ codes " refused " ++ refusal_text fault

abbrev pub cost_refused_text : ℕ → SetCostFault → List ℕ
cost_refused_text time fault = decimal time ++ codes " refused " ++ set_cost_code fault

-- an interface and an address
abbrev pub peer_text : Peer → List ℕ
peer_text peer = decimal peer.iface ++ codes " " ++ addr_text peer.addr

-- a selected route
abbrev pub choice_text : Option Choice → List ℕ
choice_text None = codes "none"
choice_text (Some c) =
    codes "via " ++ peer_text c.peer ++ codes " metric " ++ decimal c.metric ++ codes " router " ++ router_text c.router ++ codes " seqno " ++ decimal c.seqno

-- The lines of one report on selected routes have the same head.
abbrev pub select_head : ℕ → List ℕ
select_head time = decimal time ++ codes " select "

-- the greatest number of octets of a head: 20 digits, and a word between blanks
abbrev pub longest_head : ℕ
longest_head = 28

abbrev pub select_text : ℕ → PrefixValue → Option Choice → List ℕ
select_text time prefix choice = select_head time ++ prefix_text prefix ++ codes " " ++ choice_text choice

abbrev pub table_text : PrefixValue → Option Choice → List ℕ
table_text prefix choice = codes "table " ++ prefix_text prefix ++ codes " " ++ choice_text choice

-- What follows the prefix in such a line.
abbrev pub choice_end : Option Choice → List ℕ
choice_end choice = line (codes " " ++ choice_text choice)

-- What follows the head.
abbrev pub selection_line : PrefixValue → Option Choice → List ℕ
selection_line prefix choice = prefix_text prefix ++ choice_end choice

-- to whom a datagram goes
abbrev pub target_text : Target → List ℕ
target_text target = decimal target.iface ++ codes " " ++ (option_map_or addr_text target.to (codes "all"))

abbrev pub out_text : ℕ → Target → ℕ → List ℕ
out_text time target messages = decimal time ++ codes " out " ++ target_text target ++ codes " " ++ decimal messages

-- whether a route is used, or why not
abbrev pub status_text : RouteStatus → List ℕ
status_text statuses.Local = codes "local"
status_text statuses.Infinite = codes "infinite"
status_text statuses.Unfeasible = codes "unfeasible"
status_text statuses.Unreachable = codes "unreachable"
status_text statuses.Selected = codes "selected"
status_text statuses.Candidate = codes "candidate"

-- the feasibility distance of a source
abbrev pub source_text : Option Distance → List ℕ
source_text None = codes "none"
source_text (Some d) = distance_text d

-- the cost of the link, the metric over it, and the feasibility distance
abbrev pub link_text : ℕ → ℕ → Option Distance → List ℕ
link_text cost metric source = codes "cost " ++ decimal cost ++ codes " metric " ++ decimal metric ++ codes " source " ++ source_text source

-- the seqno and the metric that the neighbour advertised
abbrev pub advertised_distance_text : Distance → List ℕ
advertised_distance_text d = codes "seqno " ++ decimal d.seqno ++ codes " advertised " ++ decimal d.metric

-- what the neighbour advertised
abbrev pub advertised_text : List ℕ → Distance → List ℕ
advertised_text router d = codes "router " ++ router_text router ++ codes " " ++ advertised_distance_text d

-- the neighbour, and what it advertised
abbrev pub hop_text : Peer → List ℕ → Distance → List ℕ
hop_text peer router d = codes "via " ++ peer_text peer ++ codes " " ++ advertised_text router d

-- the link, and whether the route is used
abbrev pub usage_text : ℕ → ℕ → Option Distance → RouteStatus → List ℕ
usage_text cost metric source status = link_text cost metric source ++ codes " " ++ status_text status

-- a route of a prefix
abbrev pub route_text : RouteLine → List ℕ
route_text r = prefix_text r.prefix ++ codes " " ++ hop_text r.peer r.router r.advertised ++ codes " " ++ usage_text r.cost r.metric r.source r.status
