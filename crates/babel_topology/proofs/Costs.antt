-- Interfaces of links, and their costs.
use Rattle.std.proofs.Common.{◌≡◌, ◌==◌, ◌<◌, ◌≤◌, ◌+◌, ℕ, List, [], ◌∷◌, ◌++◌, Option, Some, true, length, get_or, take, sym, subst, arith}
use Rattle.std.proofs.Math.ListN.{set}
use Rattle.std.specs.Prelude.{All, Vec, position, slice_get}
use Rattle.std.specs.List.{AllWithin}
use Rattle.std.specs.declared.alloc.Global.{Global}
use Rattle.std.proofs.lemmas.List.Elements.{AllWithin-more_set}
use Rattle.std.proofs.lemmas.List.{take_at}
use Rattle.std.proofs.lemmas.List.Quantifiers.{position-Some}
use Rattle.std.proofs.lemmas.Option.{slice_get-get_or, slice_get_within, get_or_from_slice_get}
use Rattle.std.proofs.lemmas.Bool.{eqb-true}
use Rattle.std.proofs.lemmas.Grind.{common_steps}
use Rattle.babel_topology.specs.declared.topology.Link.{Link}
use Rattle.babel_topology.specs.declared.topology.End.{End}
use Rattle.babel_topology.specs.Files.{Keeps, HasCostAt, HasItsCost, KeepsEach}

cost_kept : (olds news : List (Vec ℕ Global)) (cost : ℕ) (e : End) → KeepsEach olds news → HasCostAt olds cost e → HasCostAt news cost e
cost_kept olds news cost e keeps has d = keeps e.node d e.iface cost (has d)

its_cost_kept : (olds news : List (Vec ℕ Global)) (l : Link) → KeepsEach olds news → HasItsCost olds l → HasItsCost news l
its_cost_kept olds news l keeps has = (cost_kept olds news l.cost l.a keeps has.0, cost_kept olds news l.cost l.b keeps has.1)

-- One more link has interfaces of its cost, and those before it keep theirs.
pub costs_more : (first second third : List (Vec ℕ Global)) (links : List Link) (i : ℕ) (l : Link) → i < length links → KeepsEach first second
    → KeepsEach second third → HasCostAt second l.cost l.a → HasCostAt third l.cost l.b → AllWithin (HasItsCost first) links 0 i
    → AllWithin (HasItsCost third) (set links i l) 0 (i + 1)
costs_more first second third links i l low one two a b all =
    AllWithin-more_set links i l low (HasItsCost third)
    (λ k d from upto. its_cost_kept second third (get_or links k d) two (its_cost_kept first second (get_or links k d) one (all k d from upto)))
    (cost_kept second third l.cost l.a two a, b)

-- The interface that is found for a cost has it.
pub found_cost : (costs seen : List ℕ) (cost i : ℕ) (found : Option ℕ) → found ≡ position (λ other. other == cost) seen → found ≡ Some i → seen ≡ costs
    → slice_get costs i ≡ Some cost
found_cost costs seen cost i found is some whole =
    let place : position (λ other. other == cost) seen ≡ Some i = cc in
    let low : i < length seen = (position-Some (λ other. other == cost) seen i 0 place).0 in
    let passes : (get_or seen i 0 == cost) ≡ true = (position-Some (λ other. other == cost) seen i 0 place).1 in
    let same : get_or seen i 0 ≡ cost = eqb-true (get_or seen i 0) cost passes in
    let got : slice_get seen i ≡ Some (get_or seen i 0) = slice_get-get_or seen i 0 low in
    let P : List ℕ → Type 0 = λ xs. slice_get xs i ≡ Some cost in
    subst P whole (rw same at got)

-- One more cost: the others stay, and it is the last.
pub kept_push : (xs ys : List ℕ) (cost : ℕ) → ys ≡ xs ++ cost ∷ [] → Keeps xs ys
kept_push xs ys cost is k x e =
    let low : k < length xs = slice_get_within xs k x e in
    let had : get_or xs k 0 ≡ x = get_or_from_slice_get xs k x 0 e in
    let inside : k < length ys = grind (arith, common_steps) in
    let has : get_or ys k 0 ≡ x = grind (arith, common_steps) in
    let got : slice_get ys k ≡ Some (get_or ys k 0) = slice_get-get_or ys k 0 inside in
    rw has at got

pub pushed_last : (xs ys : List ℕ) (cost n : ℕ) → ys ≡ xs ++ cost ∷ [] → n ≡ length xs → slice_get ys n ≡ Some cost
pushed_last xs ys cost n is end =
    let inside : n < length ys = grind (arith, common_steps) in
    let has : get_or ys n 0 ≡ cost = grind (arith, common_steps) in
    let got : slice_get ys n ≡ Some (get_or ys n 0) = slice_get-get_or ys n 0 inside in
    rw has at got

-- All links that were written back.
pub costs_whole : (interfaces : List (Vec ℕ Global)) (links rest : List Link) (n : ℕ) → length links ≡ n → All (HasItsCost interfaces) links
    → All (HasItsCost interfaces) (take n (links ++ rest))
costs_whole interfaces links rest n whole all =
    let P : List Link → Type 0 = λ xs. All (HasItsCost interfaces) xs in
    subst P (sym (take_at links rest n whole)) all

-- At the end of the list all links have interfaces of their cost.
pub costs_all : (interfaces : List (Vec ℕ Global)) (links : List Link) (n : ℕ) → length links ≤ n → AllWithin (HasItsCost interfaces) links 0 n
    → All (HasItsCost interfaces) links
costs_all interfaces links n end all k d low = all k d (omega arith) (omega arith)
