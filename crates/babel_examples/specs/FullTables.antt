-- Tables without room, and numbers at their greatest (examples; profile).
use Rattle.std.specs.Prelude.{ℕ, ◌/◌, ◌%◌, List, [], ◌∷◌, map}
use Rattle.std.specs.List.{range_with_len}
use Rattle.babel_value.specs.declared.addresses.Addr.TheVariants.{V4}
use Rattle.babel_value.specs.declared.keys.Source.{Source}
use Rattle.babel_choice.specs.declared.entries.Entry.{Entry}
use Rattle.babel_sources.specs.declared.sources.SourceEntry.{SourceEntry}
use Rattle.babel_choice.specs.Routes.{RouteEntries, key_of}
use Rattle.babel_state.specs.declared.requests.PendingRequest.{PendingRequest}
use Rattle.babel_state.specs.declared.requests.Resend.TheVariants.{Never}
use Rattle.babel_state.specs.State.{State}
use Rattle.babel_examples.specs.ExampleStates.{router, addr, peer, net, pair, start, up_link, meshed, update, after}
use Rattle.babel_examples.specs.LostRoutes.{updated_5}

-- The numbers below n, each made into something.
abbrev pub first_ones : {X : Type 0} → ℕ → (ℕ → X) → List X
first_ones n f = map f (range_with_len 0 n)

abbrev pub some_entry : Entry
some_entry = record { router = router 1; distance = pair 0 0; next_hop = addr 1; interval = 1600; deadline = 5600 }

-- 256 routes, to 10.0.0.0/16 and so on, of neighbour 1.
abbrev pub full_routes : RouteEntries
full_routes = first_ones 256 (λ n. (key_of (net n) (peer 1), some_entry))

-- 10.0.0.0/24, 10.0.1.0/24 and so on, of router 1.
abbrev pub numbered_source : ℕ → Source
numbered_source n = record { prefix = record { addr = V4 (10 ∷ n / 256 ∷ n % 256 ∷ 0 ∷ []); length = 24 }; router = router 1 }

-- 256 routes.
abbrev pub full_of_routes : State
full_of_routes = record meshed { routes = record { entries = full_routes; selections = [] } }

-- 512 sources, and a route of a 513th, whose Update is queued to all.
abbrev pub held_source : SourceEntry
held_source = record { distance = pair 0 96; due = 18000 }

abbrev pub full_of_sources : State
full_of_sources =
    after 0 1 (update 1 1 5 0)
    (record meshed { sources = first_ones 512 (λ n. (numbered_source n, held_source)) })

-- 64 pending requests, and 64 neighbours.
abbrev pub some_request : PendingRequest
some_request = record { seqno = 1; resend = Never; wait = 200; due = 300 }

abbrev pub full_of_requests : State
full_of_requests = record updated_5 { requests = first_ones 64 (λ n. (numbered_source n, some_request)) }

abbrev pub full_of_neighbours : State
full_of_neighbours = record start { neighbours = first_ones 64 (λ n. (peer n, up_link)) }

-- The own seqno and the count of its growths at their greatest.
abbrev pub at_greatest : State
at_greatest = record start { seqno = 65535; raises = 18446744073709551615 }
