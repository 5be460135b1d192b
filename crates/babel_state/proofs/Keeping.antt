-- Steps keep what is the speaker's own.
use Rattle.std.specs.Prelude.{◌≡◌, ◌⊎◌, ℕ, Bool, true, false, List, [], ◌∷◌, map, Option, Some, None, nat_lt, if◌then◌else◌}
use Rattle.std.proofs.Common.{refl, ◌∙◌, ap, inl, inr}
use Rattle.babel_value.specs.declared.addresses.Addr.{Addr}
use Rattle.babel_value.specs.declared.distances.Distance.{Distance}
use Rattle.babel_value.specs.declared.keys.Peer.{Peer}
use Rattle.babel_value.specs.declared.keys.Source.{Source}
use Rattle.babel_value.specs.Prefixes.{PrefixValue}
use Rattle.babel_link.specs.Neighbours.{Links, gone_of, hello_verdict}
use Rattle.babel_link.specs.declared.marks.Heard.{Heard}
use Rattle.babel_link.specs.declared.marks.Heard.TheVariants.{Kept, Flush}
use Rattle.babel_message.specs.declared.messages.Message.{Message}
use Rattle.babel_message.specs.declared.messages.Message.TheVariants as messages
use Rattle.babel_choice.specs.declared.entries.Selection.{Selection}
use Rattle.babel_route.specs.Selections.{RoutesValue}
use Rattle.babel_sources.specs.Sources.{collected}
use Rattle.babel_state.specs.declared.interfaces.InterfaceEntry.{InterfaceEntry}
use Rattle.babel_state.specs.declared.items.Item.{Item}
use Rattle.babel_state.specs.declared.requests.Resend.{Resend}
use Rattle.babel_state.specs.declared.notes.Verdict.TheVariants as verdicts
use Rattle.babel_state.specs.Sameness.{is_same_router}
use Rattle.babel_state.specs.PendingRequests.{PendingRequests, is_redundant}
use Rattle.babel_state.specs.State.{State, selected_at, pair_at}
use Rattle.babel_state.specs.Reselection.{UnfeasibleUpdate, queue, update_to, request_seqno, reselect, reselect_all}
use Rattle.babel_state.specs.Hellos.{Step, forget_neighbour, forgets_flushed, hears, handle_hello, handle_ihu}
use Rattle.babel_state.specs.Updates.{store, advertise_if_selected, satisfy_request, judge, is_route_too_many, handle_update, handle_retraction, handle_retract_all}
use Rattle.babel_state.specs.SeqnoRequests.{raised, satisfies, requested_of_own, forward, requested_of_route, receiver, handle_seqno_request}
use Rattle.babel_state.specs.Messages.{handle_from_neighbour, handle_message}
use Rattle.babel_state.specs.Ticks.{forget_each, links_ticked, routes_ticked, requests_ticked, fired, interfaces_ticked, sources_ticked, routes_selected, ticked}
use Rattle.babel_state.specs.StepLaws.{settings_of, settings_in, OwnValue, own_of, grown, kept_of, base_of, MessagesKeepOwn, TicksKeepOwn}
use Rattle.babel_state.proofs.Reselecting.{asks_kept, reselects_base, all_base}

-- ---- cases

if_state : (b : Bool) (x y : State) (o : OwnValue) → own_of x ≡ o → own_of y ≡ o → own_of (if b then x else y) ≡ o
if_state true x y o p q = p
if_state false x y o p q = q

pub if_step : (b : Bool) (x y : Step) (o : OwnValue) → own_of x.0 ≡ o → own_of y.0 ≡ o → own_of (if b then x else y).0 ≡ o
if_step true x y o p q = p
if_step false x y o p q = q

-- ---- what isn't the speaker's own

queue_own : (xs : List Item) (s : State) → own_of (queue xs s) ≡ own_of s
unfolding own_of
queue_own xs s = refl

requests_own : (s : State) (requests : PendingRequests) → own_of (record s { requests = requests }) ≡ own_of s
unfolding own_of
requests_own s requests = refl

routes_own : (s : State) (routes : RoutesValue) → own_of (record s { routes = routes }) ≡ own_of s
unfolding own_of
routes_own s routes = refl

neighbours_own : (s : State) (neighbours : Links) → own_of (record s { neighbours = neighbours }) ≡ own_of s
unfolding own_of
neighbours_own s neighbours = refl

interfaces_own : (s : State) (interfaces : List InterfaceEntry) → map settings_of interfaces ≡ settings_in s → own_of (record s { interfaces = interfaces }) ≡ own_of s
unfolding own_of
interfaces_own s interfaces same = λ i. record {
  router = s.router;
  collects = s.collects;
  seqno = s.seqno;
  raises = s.raises;
  announced = s.announced;
  interfaces = same i;
  sources = s.sources;
  left_out = s.left_out;
}

pub fired_settings : (now : ℕ) (is : List InterfaceEntry) → map settings_of (map (fired now) is) ≡ map settings_of is
fired_settings now [] = refl
fired_settings now (i ∷ is) = ap (λ xs. settings_of i ∷ xs) (fired_settings now is)

-- ---- reselection

pub kept_own : (s t : State) → kept_of t ≡ kept_of s → own_of t ≡ own_of s
unfolding kept_of own_of
kept_own s t same = ap own_of same

from_base : (s t : State) → base_of t ≡ base_of s → own_of t ≡ own_of s
unfolding base_of own_of
from_base s t same = ap own_of same

asks_own : (now : ℕ) (source : Source) (seqno : ℕ) (resend : Resend) (hops : ℕ) (peers : List Peer) (s : State) → own_of (request_seqno now source seqno resend hops peers s) ≡ own_of s
asks_own now source seqno resend hops peers s = kept_own s _ (asks_kept now source seqno resend hops peers s)

reselects_own : (now : ℕ) (cause : Option UnfeasibleUpdate) (prefix : PrefixValue) (s : State) → own_of (reselect now cause prefix s) ≡ own_of s
reselects_own now cause prefix s = from_base s _ (reselects_base now cause prefix s)

all_own : (now : ℕ) (s : State) → own_of (reselect_all now s) ≡ own_of s
all_own now s = from_base s _ (all_base now s)

-- ---- messages

flushed_own : (heard : Heard) (peer : Peer) (s : State) → own_of (forgets_flushed heard peer s) ≡ own_of s
flushed_own Kept peer s = refl
flushed_own Flush peer s = routes_own s _

hears_own : (now : ℕ) (peer : Peer) (unicast : Bool) (seqno interval : ℕ) (s : State) → own_of (hears now peer unicast seqno interval s) ≡ own_of s
hears_own now peer unicast seqno interval s =
    flushed_own (hello_verdict peer unicast seqno s.neighbours) peer _ ∙ neighbours_own s _

hello_own : (now : ℕ) (peer : Peer) (unicast : Bool) (seqno interval : ℕ) (s : State) → own_of (handle_hello now peer unicast seqno interval s).0 ≡ own_of s
unfolding handle_hello
hello_own now peer unicast seqno interval s =
    if_step _ _ _ _ (all_own now s) (all_own now (hears now peer unicast seqno interval s) ∙ hears_own now peer unicast seqno interval s)

pub ihu_own : (now : ℕ) (peer : Peer) (to : Option Addr) (rxcost interval : ℕ) (s : State) → own_of (handle_ihu now peer to rxcost interval s).0 ≡ own_of s
unfolding handle_ihu
ihu_own now peer to rxcost interval s = if_step _ _ _ _ (all_own now _ ∙ neighbours_own s _) refl

advertise_if_own : (prefix : PrefixValue) (s : State) → own_of (advertise_if_selected prefix s) ≡ own_of s
advertise_if_own prefix s = if_state _ _ _ _ (queue_own _ s) refl

satisfy_own : (source : Source) (seqno : ℕ) (s : State) → own_of (satisfy_request source seqno s) ≡ own_of s
unfolding satisfy_request
satisfy_own source seqno s = if_state _ _ _ _ (advertise_if_own source.prefix _ ∙ requests_own s _) refl

judges_own : (now : ℕ) (peer : Peer) (prefix : PrefixValue) (router : List ℕ) (distance : Distance) (pair : Option Distance) (s : State) → own_of (judge now peer prefix router distance pair s).0 ≡ own_of s
judges_own now peer prefix router distance None s = satisfy_own _ _ _ ∙ reselects_own now None prefix s
judges_own now peer prefix router distance (Some pair) s =
    if_step _ _ _ _ (satisfy_own _ _ _ ∙ reselects_own now None prefix s) (reselects_own now _ prefix s)

handle_update_own : (now : ℕ) (peer : Peer) (prefix : PrefixValue) (router : List ℕ) (next_hop : Addr) (distance : Distance) (interval : ℕ) (s : State) →
    own_of (handle_update now peer prefix router next_hop distance interval s).0 ≡ own_of s
unfolding handle_update
handle_update_own now peer prefix router next_hop distance interval s =
    let stored : State = store now peer prefix router next_hop distance interval s in
    let judged : Step = judge now peer prefix router distance (pair_at prefix router s) stored in
    let kept : own_of judged.0 ≡ own_of s = judges_own now peer prefix router distance (pair_at prefix router s) stored ∙ routes_own s _ in
    let full : Step = (s, verdicts.TableFull) in
    let unless_full : Step = if is_route_too_many prefix peer s then full else judged in
    if_step (is_same_router router s.router) (s, verdicts.OwnRouterId) unless_full (own_of s) refl
    (if_step (is_route_too_many prefix peer s) full judged (own_of s) refl kept)

retraction_own : (now : ℕ) (peer : Peer) (prefix : PrefixValue) (s : State) → own_of (handle_retraction now peer prefix s).0 ≡ own_of s
unfolding handle_retraction
retraction_own now peer prefix s = if_step _ _ _ _ (reselects_own now None prefix _ ∙ routes_own s _) refl

retract_all_own : (now : ℕ) (peer : Peer) (s : State) → own_of (handle_retract_all now peer s).0 ≡ own_of s
unfolding handle_retract_all
retract_all_own now peer s = if_step _ _ _ _ (all_own now _ ∙ routes_own s _) refl

-- ---- seqno requests

abbrev Grows : OwnValue → State → Type 0
Grows o t = (own_of t ≡ o) ⊎ (own_of t ≡ grown o)

either_step : (b : Bool) (x y : Step) (o : OwnValue) → Grows o x.0 → Grows o y.0 → Grows o (if b then x else y).0
either_step true x y o p q = p
either_step false x y o p q = q

either_state : (b : Bool) (x y : State) (o : OwnValue) → Grows o x → Grows o y → Grows o (if b then x else y)
either_state true x y o p q = p
either_state false x y o p q = q

pub raised_own : (s : State) → own_of (raised s) ≡ grown (own_of s)
unfolding own_of
raised_own s = refl

own_prefix : (peer : Peer) (source : Source) (seqno : ℕ) (s : State) → Grows (own_of s) (requested_of_own peer source seqno s)
own_prefix peer source seqno s = either_state _ _ _ _ (inl (queue_own _ s)) (inr (queue_own _ (raised s) ∙ raised_own s))

passes_own : (now : ℕ) (source : Source) (seqno hops : ℕ) (next : Option Peer) (s : State) → own_of (forward now source seqno hops next s).0 ≡ own_of s
passes_own now source seqno hops None s = refl
passes_own now source seqno hops (Some next) s = asks_own _ _ _ _ _ _ s

route_own : (now : ℕ) (peer : Peer) (source : Source) (seqno hops : ℕ) (route : Option Selection) (s : State) → own_of (requested_of_route now peer source seqno hops route s).0 ≡ own_of s
route_own now peer source seqno hops None s = refl
route_own now peer source seqno hops (Some route) s =
    let passed : Step = forward now source seqno hops (receiver peer source.prefix s) s in
    let kept : own_of passed.0 ≡ own_of s = passes_own now source seqno hops (receiver peer source.prefix s) s in
    let ends : Step = (s, verdicts.NotForwarded) in
    let redundant : Step = (s, verdicts.Redundant) in
    let with_hops : Step = if nat_lt hops 2 then ends else passed in
    let unless_redundant : Step = if is_redundant source seqno s.requests then redundant else with_hops in
    if_step (satisfies route.entry.router route.entry.distance.seqno source.router seqno) (queue (update_to peer source.prefix ∷ []) s, verdicts.Taken) unless_redundant (own_of s)
    (queue_own _ s)
    (if_step (is_redundant source seqno s.requests) redundant with_hops (own_of s) refl (if_step (nat_lt hops 2) ends passed (own_of s) refl kept))

seqno_request_own : (now : ℕ) (peer : Peer) (source : Source) (seqno hops : ℕ) (s : State) → Grows (own_of s) (handle_seqno_request now peer source seqno hops s).0
unfolding handle_seqno_request
seqno_request_own now peer source seqno hops s =
    either_step _ _ _ _ (own_prefix peer source seqno s) (inl (route_own now peer source seqno hops (selected_at source.prefix s) s))

-- ---- every message

neighbour_own : (now : ℕ) (peer : Peer) (message : Message) (s : State) → Grows (own_of s) (handle_from_neighbour now peer message s).0
neighbour_own now peer (messages.AckRequest opaque interval) s = inl refl
neighbour_own now peer (messages.Ack opaque) s = inl refl
neighbour_own now peer (messages.Hello unicast seqno interval) s = inl refl
neighbour_own now peer (messages.Ihu to rxcost interval) s = inl (ihu_own now peer to rxcost interval s)
neighbour_own now peer (messages.Update prefix router next_hop seqno metric interval) s = inl (handle_update_own now peer prefix router next_hop _ interval s)
neighbour_own now peer (messages.Retraction prefix interval) s = inl (retraction_own now peer prefix s)
neighbour_own now peer (messages.RetractAll interval) s = inl (retract_all_own now peer s)
neighbour_own now peer (messages.RouteRequest prefix) s = inl (queue_own _ s)
neighbour_own now peer messages.DumpRequest s = inl (queue_own _ s)
neighbour_own now peer (messages.SeqnoRequest prefix router seqno hops) s = seqno_request_own now peer _ seqno hops s

pub message_own : MessagesKeepOwn
unfolding handle_message
message_own now peer (messages.AckRequest opaque interval) s = inl (queue_own _ s)
message_own now peer (messages.Ack opaque) s = either_step _ _ _ _ (neighbour_own now peer (messages.Ack opaque) s) (inl refl)
message_own now peer (messages.Hello unicast seqno interval) s = inl (hello_own now peer unicast seqno interval s)
message_own now peer (messages.Ihu to rxcost interval) s = either_step _ _ _ _ (neighbour_own now peer (messages.Ihu to rxcost interval) s) (inl refl)
message_own now peer (messages.Update prefix router next_hop seqno metric interval) s =
    either_step _ _ _ _ (neighbour_own now peer (messages.Update prefix router next_hop seqno metric interval) s) (inl refl)
message_own now peer (messages.Retraction prefix interval) s = either_step _ _ _ _ (neighbour_own now peer (messages.Retraction prefix interval) s) (inl refl)
message_own now peer (messages.RetractAll interval) s = either_step _ _ _ _ (neighbour_own now peer (messages.RetractAll interval) s) (inl refl)
message_own now peer (messages.RouteRequest prefix) s = either_step _ _ _ _ (neighbour_own now peer (messages.RouteRequest prefix) s) (inl refl)
message_own now peer messages.DumpRequest s = either_step _ _ _ _ (neighbour_own now peer messages.DumpRequest s) (inl refl)
message_own now peer (messages.SeqnoRequest prefix router seqno hops) s =
    either_step _ _ _ _ (neighbour_own now peer (messages.SeqnoRequest prefix router seqno hops) s) (inl refl)

-- ---- the tick

forgets_own : (peers : List Peer) (s : State) → own_of (forget_each peers s) ≡ own_of s
forgets_own [] s = refl
forgets_own (peer ∷ peers) s = forgets_own peers (forget_neighbour peer s) ∙ routes_own s _

links_own : (now : ℕ) (s : State) → own_of (links_ticked now s) ≡ own_of s
unfolding links_ticked
links_own now s = forgets_own (gone_of now s.neighbours) _ ∙ neighbours_own s _

routes_ticked_own : (now : ℕ) (s : State) → own_of (routes_ticked now s) ≡ own_of s
unfolding routes_ticked
routes_ticked_own now s = routes_own s _

requests_ticked_own : (now : ℕ) (s : State) → own_of (requests_ticked now s) ≡ own_of s
unfolding requests_ticked
requests_ticked_own now s = queue_own _ _ ∙ requests_own s _

interfaces_ticked_own : (now : ℕ) (s : State) → own_of (interfaces_ticked now s) ≡ own_of s
unfolding interfaces_ticked
interfaces_ticked_own now s = queue_own _ _ ∙ interfaces_own s (map (fired now) s.interfaces) (fired_settings now s.interfaces)

pub sources_ticked_is : (now : ℕ) (s : State) → s.collects ≡ false → sources_ticked now s ≡ s
unfolding sources_ticked
sources_ticked_is now s off = ap (λ b. if b then record s { sources = collected now s.sources } else s) off

pub before_sources : (now : ℕ) (s : State) → own_of (interfaces_ticked now (requests_ticked now (routes_selected now s))) ≡ own_of s
before_sources now s =
    interfaces_ticked_own now _ ∙ requests_ticked_own now _ ∙ all_own now _ ∙ routes_ticked_own now _ ∙ all_own now _ ∙ links_own now s

collects_of : (s t : State) → own_of t ≡ own_of s → t.collects ≡ s.collects
unfolding own_of
collects_of s t same = ap (λ (o : OwnValue). o.collects) same

pub collects_before_sources : (now : ℕ) (s : State) → (interfaces_ticked now (requests_ticked now (routes_selected now s))).collects ≡ s.collects
collects_before_sources now s = collects_of s _ (before_sources now s)

pub tick_own : TicksKeepOwn
unfolding ticked
tick_own now s off =
    ap own_of (sources_ticked_is now _ (collects_of s _ (before_sources now s) ∙ off)) ∙ before_sources now s
