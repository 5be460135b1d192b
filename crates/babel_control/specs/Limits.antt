-- How much of a client is kept (profile).
use Rattle.std.specs.Prelude.{ℕ}

-- The most octets of a line that a client sends, without its line feed.
abbrev pub line_room : ℕ
line_room = 1024

-- The most octets that wait for a client.
abbrev pub output_room : ℕ
output_room = 1048576

-- The octet that ends a line.
abbrev pub line_feed : ℕ
line_feed = 10
