-- The table of pending requests for a seqno (RFC 8966, sections 3.2.7 and 3.8.2.1).
use Rattle.std.specs.Prelude.{ℕ, Bool, false, ◌&&◌, not, List, ◌==◌, length, is_none, if◌then◌else◌}
use Rattle.std.specs.Option.{option_map_or}
use Rattle.std.specs.FinMap.{find, put}
use Rattle.babel_value.specs.declared.keys.Source.{Source}
use Rattle.babel_value.specs.Seqnos.{is_before}
use Rattle.babel_value.specs.Moments.{later}
use Rattle.babel_value.specs.Orders.{source_cmp}
use Rattle.babel_state.specs.declared.requests.Resend.{Resend}
use Rattle.babel_state.specs.declared.requests.PendingRequest.{PendingRequest}
use Rattle.babel_state.specs.Limits.{most_requests, first_wait}

-- At most one for each source, in the order of the sources (RFC 8966, section 3.2.7).
abbrev pub PendingRequests : Type 0
PendingRequests = List (Source × PendingRequest)

-- A request for the source is pending whose seqno isn't smaller: another one would be redundant (RFC 8966, section 3.8.1.2).
abbrev pub is_redundant : Source → ℕ → PendingRequests → Bool
is_redundant source seqno requests =
    option_map_or (λ r. not (is_before r.seqno seqno)) (find source_cmp source requests) false

-- A new one waits 200 centiseconds (RFC 8966, section 3.8.2.1; the time is the profile's).
abbrev pub new_request : ℕ → ℕ → Resend → PendingRequest
new_request now seqno resend = record { seqno = seqno; resend = resend; wait = first_wait; due = later now first_wait }

-- The source is new, and 64 others are there.
abbrev pub has_no_room : Source → PendingRequests → Bool
has_no_room source requests = is_none (find source_cmp source requests) && (length requests == most_requests)

-- The table after a request was made. It replaces one that was pending; it isn't recorded where there is no room (profile).
abbrev pub recorded : ℕ → Source → ℕ → Resend → PendingRequests → PendingRequests
recorded now source seqno resend requests =
    if has_no_room source requests then requests else put source_cmp source (new_request now seqno resend) requests
