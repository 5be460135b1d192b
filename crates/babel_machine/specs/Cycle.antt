-- Where picks lead, and what a cycle of them is (a routing loop, RFC 8966 section 2.3).
use Rattle.std.specs.Prelude.{◌≡◌, ℕ, List, [], ◌∷◌, Option, Some, None, option_map, option_and_then, slice_get}
use Rattle.babel_machine.specs.declared.machine.pick.Pick.{Pick}
use Rattle.babel_machine.specs.Machine.{SourceState, node_at}

-- The node that a node's pick is from.
abbrev pub next_hop_of : SourceState → ℕ → Option ℕ
next_hop_of state node = option_map (λ (pick : Pick). pick.from) (node_at state node).pick

-- The same for a source of the machine, if the machine has it.
abbrev pub next_hop_at : List SourceState → ℕ → ℕ → Option ℕ
next_hop_at machine node source = option_and_then (λ state. next_hop_of state node) (slice_get machine source)

-- From the node each pick is from the next node of the list, and the last one's is from the end.
abbrev pub LeadsThrough : SourceState → ℕ → List ℕ → ℕ → Type 0
LeadsThrough state node [] end = next_hop_of state node ≡ Some end
LeadsThrough state node (next ∷ rest) end = (next_hop_of state node ≡ Some next) × LeadsThrough state next rest end

-- A nonempty list of nodes in which each one's pick is from the next, and the last one's from the first.
abbrev pub IsCycle : SourceState → List ℕ → Type 0
IsCycle state [] = ⊥
IsCycle state (first ∷ rest) = LeadsThrough state first rest first

-- No list of nodes is a cycle.
abbrev pub NoCycle : SourceState → Type 0
NoCycle state = (nodes : List ℕ) → ¬ IsCycle state nodes

-- The owner of the source uses no announcement of another node.
abbrev pub OwnerHasNoPick : SourceState → Type 0
OwnerHasNoPick state = (node_at state state.owner).pick ≡ None
