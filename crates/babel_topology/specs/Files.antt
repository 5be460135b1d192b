-- What a file of a topology has, and what its nodes, links and interfaces keep (profile).
use Rattle.std.specs.Prelude.{◌≡◌, ◌≢◌, ◌<◌, ℕ, false, List, codes, length, slice_index_or, slice_get, AllPairs, Option, Some, Vec}
use Rattle.std.specs.Option.{option_and_then}
use Rattle.std.specs.Str.{bytes_eq}
use Rattle.std.specs.String.{string_bytes}
use Rattle.babel_topology.specs.declared.topology.Node.{Node}
use Rattle.std.specs.declared.alloc.Global.{Global}
use Rattle.babel_topology.specs.declared.topology.Link.{Link}
use Rattle.babel_topology.specs.declared.topology.End.{End}
use Rattle.babel_topology.specs.Names.{joins}
use Rattle.babel_topology.specs.Times.{IsTimeText}
use Rattle.toml.specs.Data.{Members, get_member, as_str}
use Rattle.toml.specs.Parse.{parse_document}

-- The text at a key of a table.
abbrev pub text_of : List ℕ → Members → Option (List ℕ)
text_of key members = option_and_then as_str (get_member key members)

-- The time at a key of a table, in centiseconds.
abbrev pub IsTimeAt : List ℕ → Members → ℕ → Type 0
IsTimeAt key members time = (text : List ℕ) × (text_of key members ≡ Some text) × IsTimeText text time

-- The octets are a TOML document with this duration.
abbrev pub HasDuration : List ℕ → ℕ → Type 0
HasDuration octets time = (members : Members) × (parse_document octets ≡ Some members) × IsTimeAt (codes "duration") members time

-- No two nodes have one name.
abbrev pub HasDistinctNames : List Node → Type 0
HasDistinctNames nodes = AllPairs (λ m n. bytes_eq (string_bytes m.name) (string_bytes n.name) ≡ false) nodes

-- A link between two nodes, of which there are so many.
abbrev pub IsBetween : ℕ → Link → Type 0
IsBetween count l = (l.a.node < count) × (l.b.node < count) × (l.a.node ≢ l.b.node)

-- No two links are between the same two nodes.
abbrev pub HasDistinctLinks : List Link → Type 0
HasDistinctLinks links = AllPairs (λ l m. joins l m.a.node m.b.node ≡ false) links

-- The links of two lists are one by one between the same nodes.
abbrev pub HasSameNodes : List Link → List Link → Type 0
HasSameNodes links others =
    (length others ≡ length links)
    × ((k : ℕ) (d : Link) → ((slice_index_or others k d).a.node ≡ (slice_index_or links k d).a.node)
    × ((slice_index_or others k d).b.node ≡ (slice_index_or links k d).b.node))

-- What the first list has at a number, the second has there too.
abbrev pub Keeps : List ℕ → List ℕ → Type 0
Keeps xs ys = (k x : ℕ) → slice_get xs k ≡ Some x → slice_get ys k ≡ Some x

-- The link ends at an interface of this cost.
abbrev pub HasCostAt : List (Vec ℕ Global) → ℕ → End → Type 0
HasCostAt interfaces cost e = (d : Vec ℕ Global) → slice_get (slice_index_or interfaces e.node d).items e.iface ≡ Some cost

-- Both interfaces of a link have its cost.
abbrev pub HasItsCost : List (Vec ℕ Global) → Link → Type 0
HasItsCost interfaces l = HasCostAt interfaces l.cost l.a × HasCostAt interfaces l.cost l.b

-- Each list of costs keeps what it has.
abbrev pub KeepsEach : List (Vec ℕ Global) → List (Vec ℕ Global) → Type 0
KeepsEach olds news = (n : ℕ) (d : Vec ℕ Global) → Keeps (slice_index_or olds n d).items (slice_index_or news n d).items
