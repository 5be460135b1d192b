-- What the texts of steps and of expectations are about.
use Rattle.std.proofs.Common.{◌≡◌, ◌<◌, ℕ, List, Option, Some, None, length, sym, subst}
use Rattle.std.specs.String.{string_bytes}
use Rattle.std.specs.Str.{bytes_eq}
use Rattle.babel_value.specs.Prefixes.{PrefixValue}
use Rattle.babel_topology.specs.declared.topology.Node.{Node}
use Rattle.babel_topology.specs.declared.topology.Link.{Link}
use Rattle.babel_topology.specs.declared.topology.Action.{Action}
use Rattle.babel_topology.specs.declared.topology.NextHop.{NextHop}
use Rattle.babel_topology.specs.declared.topology.NextHop.TheVariants as hops
use Rattle.babel_topology.specs.declared.verbs.Verb.{Verb}
use Rattle.babel_topology.specs.declared.verbs.Verb.TheVariants as verbs
use Rattle.babel_topology.specs.Words.{IsPair, after_mark, blank}
use Rattle.babel_topology.specs.Names.{joins, link_of, IsNodeText, IsLinkText}
use Rattle.babel_topology.specs.Actions.{HasFields, IsActionText, IsHopText, IsRouteText, IsAbout, IsHopAmong}
use Rattle.babel_topology.proofs.GrowingLists.{position_below}

-- A link or a node that a text names is one of the list.
link_below : (links : List Link) (a b : Option ℕ) (link : ℕ) → link_of links a b ≡ Some link → link < length links
link_below links None b link is = let never : None ≡ Some link = is in cc
link_below links (Some a) None link is = let never : None ≡ Some link = is in cc
link_below links (Some a) (Some b) link is = position_below (λ (l : Link). joins l a b) links link is

link_text_below : (nodes : List Node) (links : List Link) (text : List ℕ) (link : ℕ) → IsLinkText nodes links text link → link < length links
link_text_below nodes links text link h = link_below links _ _ link h.1

node_below : (nodes : List Node) (text : List ℕ) (node : ℕ) → IsNodeText nodes text node → node < length nodes
node_below nodes text node h = position_below (λ (n : Node). bytes_eq (string_bytes n.name) text) nodes node h

about_same : (nodes links : ℕ) (one other : Action) → one ≡ other → IsAbout nodes links other → IsAbout nodes links one
about_same nodes links one other is h = let P : Action → Type 0 = λ a. IsAbout nodes links a in subst P (sym is) h

fields_about : (nodes : List Node) (links : List Link) (verb : Verb) (text : List ℕ) (action : Action) → HasFields nodes links verb text action
    → IsAbout (length nodes) (length links) action
fields_about nodes links verbs.Cut text action (link, h, is) = about_same _ _ _ _ is (link_text_below nodes links _ link h)
fields_about nodes links verbs.Join text action (link, h, is) = about_same _ _ _ _ is (link_text_below nodes links _ link h)
fields_about nodes links verbs.Cost text action (read, h, is) = about_same _ _ _ _ is (link_text_below nodes links _ read.0 h.1, h.2.1)
fields_about nodes links verbs.Lossy text action (read, h, is) = about_same _ _ _ _ is (link_text_below nodes links _ read.0 h.1, h.2.3)
fields_about nodes links verbs.Announce text action (read, h, is) = about_same _ _ _ _ is (node_below nodes _ read.0 h.1)
fields_about nodes links verbs.Withdraw text action (read, h, is) = about_same _ _ _ _ is (node_below nodes _ read.0 h.1)
fields_about nodes links verbs.Restart text action (node, h, is) = about_same _ _ _ _ is (node_below nodes _ node h)
fields_about nodes links verbs.Crash text action (node, h, is) = about_same _ _ _ _ is (node_below nodes _ node h)

-- What a text of an action means is about nodes and links of the lists.
pub action_about : (nodes : List Node) (links : List Link) (text : List ℕ) (action : Action) → IsActionText nodes links text action
    → IsAbout (length nodes) (length links) action
action_about nodes links text action (has_mark, (verb, is_verb, fields)) = fields_about nodes links verb _ action fields

hop_among : (nodes : List Node) (text : List ℕ) (hop : NextHop) → IsHopText nodes text hop → IsHopAmong (length nodes) hop
hop_among nodes text hops.Unreachable h = tt
hop_among nodes text (hops.Via node) h = node_below nodes _ node h.2

-- So are the parts of an expectation.
pub node_among : (nodes : List Node) (text : List ℕ) (node : ℕ) (route : PrefixValue × NextHop)
    → IsPair (IsNodeText nodes) (IsRouteText nodes) text (node, route) → (node < length nodes) × IsHopAmong (length nodes) route.1
node_among nodes text node route (marked, is_node, (has_mark, is_prefix, is_hop)) = (node_below nodes _ node is_node, hop_among nodes (after_mark blank (after_mark blank text)) route.1 is_hop)
