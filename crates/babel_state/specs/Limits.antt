-- How much a speaker has room for, and the numbers of its configuration and its requests. The law `limits_are_those_of_the_code`
-- of `babel_speaker` ties them to the code's.
use Rattle.std.specs.Prelude.{ℕ}

-- ---- room (profile)

abbrev pub most_interfaces : ℕ
most_interfaces = 8

-- Of an interface.
abbrev pub most_peers : ℕ
most_peers = 16

abbrev pub most_prefixes : ℕ
most_prefixes = 64

abbrev pub most_requests : ℕ
most_requests = 64

abbrev pub most_pending : ℕ
most_pending = 4096

-- ---- a configuration (profile)

-- The greatest nominal cost of an interface.
abbrev pub greatest_cost : ℕ
greatest_cost = 65534

-- The greatest Hello interval, in centiseconds.
abbrev pub longest_hello : ℕ
longest_hello = 4000

-- ---- requests (RFC 8966, section 3.8.2.1)

-- The hop count of a request that is made here.
abbrev pub request_hops : ℕ
request_hops = 64

-- How long a request first waits, in centiseconds; and the wait after which it isn't queued again.
abbrev pub first_wait : ℕ
first_wait = 200

abbrev pub last_wait : ℕ
last_wait = 1600
