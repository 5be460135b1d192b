-- What a way to an origin is, and what it costs (profile: RFC 8966 leaves the measure of a way to its metrics).
use Rattle.std.specs.Prelude.{◌≡◌, ◌<◌, ◌≤◌, ◌≢◌, ◌+◌, ℕ, List, [], ◌∷◌, Bool, true, false, ◌⊎◌, Some, length, slice_get, slice_index}
use Rattle.babel_simulate.specs.declared.shortest.Edge.{Edge}

-- The next node of a way, and what the link to it costs.
abbrev pub Hop : Type 0
Hop = ℕ × ℕ

-- The link goes from the node to the other one, in one direction or the other.
abbrev pub Joins : Edge → ℕ → ℕ → Type 0
Joins e node next = ((e.a ≡ node) × (e.b ≡ next)) ⊎ ((e.a ≡ next) × (e.b ≡ node))

-- One of the links goes from the node to this next one, at this cost.
abbrev pub IsHop : List Edge → ℕ → Hop → Type 0
IsHop edges node hop = (k : ℕ) × (e : Edge) × (slice_get edges k ≡ Some e) × (e.cost ≡ hop.1) × Joins e node hop.0

-- The hops lead from the node to an origin, over nodes that are there.
abbrev pub IsWay : List Bool → List Edge → ℕ → List Hop → Type 0
IsWay origins edges node [] = slice_get origins node ≡ Some true
IsWay origins edges node (hop ∷ hops) = (node < length origins) × IsHop edges node hop × IsWay origins edges hop.0 hops

-- What a way costs.
abbrev pub way_cost : List Hop → ℕ
way_cost [] = 0
way_cost (hop ∷ hops) = hop.1 + way_cost hops

-- Each distance that isn't 65535 is what some way of the node costs.
abbrev pub AreWays : List Bool → List Edge → List ℕ → Type 0
AreWays origins edges distances =
    (node : ℕ) → node < length origins → slice_index distances node ≢ 65535
    → (hops : List Hop) × IsWay origins edges node hops × (way_cost hops ≡ slice_index distances node)

-- No way of a node costs less than its distance, if it costs less than 65535.
abbrev pub AreShortest : List Bool → List Edge → List ℕ → Type 0
AreShortest origins edges distances =
    (node : ℕ) (hops : List Hop) → IsWay origins edges node hops → way_cost hops < 65535 → slice_index distances node ≤ way_cost hops

-- The way over the next node is shorter.
abbrev pub IsShorter : List ℕ → ℕ → ℕ → ℕ → Type 0
IsShorter distances node next cost =
    (node < length distances) × (next < length distances) × (slice_index distances next + cost < 65535)
    × (slice_index distances next + cost < slice_index distances node)

-- A link makes no way shorter.
abbrev pub IsSettled : List ℕ → Edge → Type 0
IsSettled distances e = (IsShorter distances e.a e.b e.cost → ⊥) × (IsShorter distances e.b e.a e.cost → ⊥)

-- No link makes a way shorter.
abbrev pub AreSettled : List Edge → List ℕ → Type 0
AreSettled edges distances = (k : ℕ) (e : Edge) → slice_get edges k ≡ Some e → IsSettled distances e

-- No distance has grown, and each node has one.
abbrev pub AreLower : List ℕ → List ℕ → Type 0
AreLower old new = (length new ≡ length old) × ((k : ℕ) → slice_index new k ≤ slice_index old k)

-- The distance of an origin is 0.
abbrev pub AreAtOrigins : List Bool → List ℕ → Type 0
AreAtOrigins origins distances = (node : ℕ) → slice_get origins node ≡ Some true → slice_index distances node ≡ 0

-- The distance of a node without any link.
abbrev pub first_distance_at : Bool → ℕ
first_distance_at true = 0
first_distance_at false = 65535
