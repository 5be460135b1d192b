-- The texts of steps and of expectations (profile).
use Rattle.std.specs.Prelude.{◌≡◌, ◌<◌, ◌≤◌, ℕ, ⊤, List, codes}
use Rattle.babel_text.specs.Numbers.{IsNumberText}
use Rattle.babel_text.specs.Prefixes.{IsPrefixText}
use Rattle.babel_value.specs.Prefixes.{PrefixValue}
use Rattle.babel_topology.specs.declared.topology.Node.{Node}
use Rattle.babel_topology.specs.declared.topology.Link.{Link}
use Rattle.babel_topology.specs.declared.topology.Action.{Action}
use Rattle.babel_topology.specs.declared.topology.Action.TheVariants as actions
use Rattle.babel_topology.specs.declared.topology.NextHop.{NextHop}
use Rattle.babel_topology.specs.declared.topology.NextHop.TheVariants as hops
use Rattle.babel_topology.specs.declared.topology.Step.{Step}
use Rattle.babel_topology.specs.declared.topology.Expectation.{Expectation}
use Rattle.babel_topology.specs.declared.verbs.Verb.{Verb}
use Rattle.babel_topology.specs.declared.verbs.Verb.TheVariants as verbs
use Rattle.babel_topology.specs.Words.{HasMark, before_mark, after_mark, blank, IsPair}
use Rattle.babel_topology.specs.Times.{IsTimedText}
use Rattle.babel_topology.specs.Verbs.{IsVerbText}
use Rattle.babel_topology.specs.Names.{IsNodeText, IsLinkText}

-- A nominal cost.
abbrev pub IsCost : ℕ → Type 0
IsCost cost = (1 ≤ cost) × (cost ≤ 65534)

abbrev pub IsCostText : List ℕ → ℕ → Type 0
IsCostText text cost = IsNumberText 16 text cost × IsCost cost

-- A number up to 100, and a percent sign.
abbrev pub IsPercentText : List ℕ → ℕ → Type 0
IsPercentText text percent =
    HasMark blank text × IsNumberText 16 (before_mark blank text) percent × (after_mark blank text ≡ codes "%") × (percent ≤ 100)

-- What follows a verb.
abbrev pub HasFields : List Node → List Link → Verb → List ℕ → Action → Type 0
HasFields nodes links verbs.Cut text action = (link : ℕ) × IsLinkText nodes links text link × (action ≡ actions.Cut link)
HasFields nodes links verbs.Join text action = (link : ℕ) × IsLinkText nodes links text link × (action ≡ actions.Join link)
HasFields nodes links verbs.Cost text action =
    (read : ℕ × ℕ) × IsPair (IsLinkText nodes links) IsCostText text read × (action ≡ actions.SetCost read.0 read.1)
HasFields nodes links verbs.Lossy text action =
    (read : ℕ × ℕ) × IsPair (IsLinkText nodes links) IsPercentText text read × (action ≡ actions.SetLoss read.0 read.1)
HasFields nodes links verbs.Announce text action =
    (read : ℕ × PrefixValue) × IsPair (IsNodeText nodes) IsPrefixText text read × (action ≡ actions.Announce read.0 read.1)
HasFields nodes links verbs.Withdraw text action =
    (read : ℕ × PrefixValue) × IsPair (IsNodeText nodes) IsPrefixText text read × (action ≡ actions.Withdraw read.0 read.1)
HasFields nodes links verbs.Restart text action = (node : ℕ) × IsNodeText nodes text node × (action ≡ actions.Restart node)
HasFields nodes links verbs.Crash text action = (node : ℕ) × IsNodeText nodes text node × (action ≡ actions.Crash node)

-- A verb, and what follows it.
abbrev pub IsActionText : List Node → List Link → List ℕ → Action → Type 0
IsActionText nodes links text action =
    HasMark blank text
    × ((verb : Verb) × IsVerbText (before_mark blank text) verb × HasFields nodes links verb (after_mark blank text) action)

-- `at`, a time, and an action.
abbrev pub IsStepText : List Node → List Link → List ℕ → Step → Type 0
IsStepText nodes links text step =
    HasMark blank text × (before_mark blank text ≡ codes "at")
    × ((rest : List ℕ) × IsTimedText (after_mark blank text) step.at rest × IsActionText nodes links rest step.action)

-- `none`, or `via` and the name of a node.
abbrev pub IsHopText : List Node → List ℕ → NextHop → Type 0
IsHopText nodes text hops.Unreachable = text ≡ codes "none"
IsHopText nodes text (hops.Via node) = HasMark blank text × (before_mark blank text ≡ codes "via") × IsNodeText nodes (after_mark blank text) node

-- A prefix, and the next hop to it.
abbrev pub IsRouteText : List Node → List ℕ → PrefixValue × NextHop → Type 0
IsRouteText nodes = IsPair IsPrefixText (IsHopText nodes)

-- A time, the name of a node, a prefix, and the next hop.
abbrev pub IsExpectationText : List Node → List ℕ → Expectation → Type 0
IsExpectationText nodes text expectation =
    (rest : List ℕ) × IsTimedText text expectation.at rest
    × IsPair (IsNodeText nodes) (IsRouteText nodes) rest (expectation.node, (expectation.prefix, expectation.hop))

-- What happens is about a node or a link, of which there are so many.
abbrev pub IsAbout : ℕ → ℕ → Action → Type 0
IsAbout nodes links (actions.Cut link) = link < links
IsAbout nodes links (actions.Join link) = link < links
IsAbout nodes links (actions.SetCost link cost) = (link < links) × IsCost cost
IsAbout nodes links (actions.SetLoss link loss) = (link < links) × (loss ≤ 100)
IsAbout nodes links (actions.Announce node prefix) = node < nodes
IsAbout nodes links (actions.Withdraw node prefix) = node < nodes
IsAbout nodes links (actions.Restart node) = node < nodes
IsAbout nodes links (actions.Crash node) = node < nodes

-- The next hop is one of so many nodes, or none.
abbrev pub IsHopAmong : ℕ → NextHop → Type 0
IsHopAmong nodes hops.Unreachable = ⊤
IsHopAmong nodes (hops.Via node) = node < nodes

-- What is expected is about so many nodes.
abbrev pub IsExpectedAmong : ℕ → Expectation → Type 0
IsExpectedAmong nodes e = (e.node < nodes) × IsHopAmong nodes e.hop
