-- Nodes and links by their names (profile).
use Rattle.std.specs.Prelude.{◌≡◌, ◌==◌, ℕ, Bool, ◌&&◌, ◌||◌, List, Option, Some, None, position}
use Rattle.std.specs.Str.{bytes_eq}
use Rattle.std.specs.String.{string_bytes}
use Rattle.babel_topology.specs.declared.topology.Node.{Node}
use Rattle.babel_topology.specs.declared.topology.Link.{Link}
use Rattle.babel_topology.specs.Words.{HasMark, before_mark, after_mark, dash}

-- The number of the first node of this name.
abbrev pub node_named : List Node → List ℕ → Option ℕ
node_named nodes name = position (λ n. bytes_eq (string_bytes n.name) name) nodes

-- The link is between these two nodes.
abbrev pub joins : Link → ℕ → ℕ → Bool
joins l a b = ((l.a.node == a) && (l.b.node == b)) || ((l.a.node == b) && (l.b.node == a))

-- The number of the first link between them.
abbrev pub link_between : List Link → ℕ → ℕ → Option ℕ
link_between links a b = position (λ l. joins l a b) links

abbrev pub link_of : List Link → Option ℕ → Option ℕ → Option ℕ
link_of links None b = None
link_of links (Some a) None = None
link_of links (Some a) (Some b) = link_between links a b

-- Two names with a dash between them: a link of the two nodes.
abbrev pub IsLinkText : List Node → List Link → List ℕ → ℕ → Type 0
IsLinkText nodes links text link =
    HasMark dash text
    × (link_of links (node_named nodes (before_mark dash text)) (node_named nodes (after_mark dash text)) ≡ Some link)

-- The name of a node.
abbrev pub IsNodeText : List Node → List ℕ → ℕ → Type 0
IsNodeText nodes text node = node_named nodes text ≡ Some node
