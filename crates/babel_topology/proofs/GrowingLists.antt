-- Lists of nodes and links with one more.
use Rattle.std.proofs.Common.{◌≡◌, ◌<◌, ◌≤◌, ℕ, List, [], ◌∷◌, ◌++◌, Bool, true, false, refl, Some, None, length, get_or, take, sym, subst, arith}
use Rattle.std.specs.List.{position, position_or_len, AllWithin}
use Rattle.std.specs.Prelude.{All}
use Rattle.std.specs.String.{string_bytes}
use Rattle.std.specs.Str.{bytes_eq}
use Rattle.std.proofs.lemmas.Grind.{common_steps}
use Rattle.std.proofs.Math.ListN.{set}
use Rattle.std.proofs.lemmas.List.{take_at}
use Rattle.std.proofs.lemmas.List.Elements.{All-push}
use Rattle.std.proofs.lemmas.List.Quantifiers.{all_pairs_push}
use Rattle.std.proofs.lemmas.List.Sums.{fails_before_first, position_or_len_is}
use Rattle.babel_topology.specs.declared.topology.Node.{Node}
use Rattle.babel_topology.specs.declared.topology.Link.{Link}
use Rattle.babel_topology.specs.Names.{node_named, joins, link_between}
use Rattle.babel_topology.specs.Files.{HasDistinctNames, IsBetween, HasDistinctLinks, HasSameNodes}

pub none_passes : {X : Type 0} → (p : X → Bool) (xs : List X) (k : ℕ) (d : X) → position p xs ≡ None → k < length xs → p (get_or xs k d) ≡ false
none_passes p xs k d none low =
    let end : length xs ≤ position_or_len p xs = grind (arith, common_steps) in
    fails_before_first p xs k d (omega arith)

-- All of a list pass, and so does one more.
pub all_grows : {X : Type 0} → (P : X → Type 0) (old new : List X) (x : X) → new ≡ old ++ x ∷ [] → P x → All P old → All P new
all_grows {X = X} P old new x is passes inv = let Q : List X → Type 0 = λ xs. All P xs in subst Q (sym is) (All-push P old x inv passes)

-- A place at which an element passes is one of the list.
pub position_below : {X : Type 0} → (p : X → Bool) (xs : List X) (i : ℕ) → position p xs ≡ Some i → i < length xs
position_below p xs i is = grind (arith, common_steps)

pub names_grow : (old new seen : List Node) (node : Node) → new ≡ old ++ node ∷ [] → seen ≡ old
    → node_named seen (string_bytes node.name) ≡ None → HasDistinctNames old → HasDistinctNames new
names_grow old new seen node is whole none inv =
    let P : List Node → Type 0 = λ xs. HasDistinctNames xs in
    let Q : List Node → Type 0 = λ xs. node_named xs (string_bytes node.name) ≡ None in
    let same : node_named old (string_bytes node.name) ≡ None = subst Q whole none in
    subst P (sym is) (all_pairs_push (λ (m n : Node). bytes_eq (string_bytes m.name) (string_bytes n.name) ≡ false) old node inv (λ k d low. none_passes (λ (n : Node). bytes_eq (string_bytes n.name) (string_bytes node.name)) old k d same low))

pub links_grow : (old new seen : List Link) (link : Link) → new ≡ old ++ link ∷ [] → seen ≡ old
    → link_between seen link.a.node link.b.node ≡ None → HasDistinctLinks old → HasDistinctLinks new
links_grow old new seen link is whole none inv =
    let P : List Link → Type 0 = λ xs. HasDistinctLinks xs in
    let Q : List Link → Type 0 = λ xs. link_between xs link.a.node link.b.node ≡ None in
    let same : link_between old link.a.node link.b.node ≡ None = subst Q whole none in
    subst P (sym is) (all_pairs_push (λ (l m : Link). joins l m.a.node m.b.node ≡ false) old link inv (λ k d low. none_passes (λ (l : Link). joins l link.a.node link.b.node) old k d same low))

-- Links between the same nodes have the same ends.
pub same_between : (count : ℕ) (links others : List Link) → HasSameNodes links others → All (IsBetween count) links → All (IsBetween count) others
same_between count links others same all k d low =
    let between : IsBetween count (get_or links k d) = all k d (omega arith) in
    let equal = same.1 k d in
    rw (equal.0, equal.1) between

pub same_distinct : (links others : List Link) → HasSameNodes links others → HasDistinctLinks links → HasDistinctLinks others
same_distinct links others same all i j d lt low =
    let apart : joins (get_or links i d) (get_or links j d).a.node (get_or links j d).b.node ≡ false = all i j d lt (omega arith) in
    let first = same.1 i d in
    let second = same.1 j d in
    rw (first.0, first.1, second.0, second.1) apart

-- A link gets other interfaces.
pub same_set : (old links : List Link) (i : ℕ) (l e : Link) → HasSameNodes old links → i < length links → l.a.node ≡ (get_or links i e).a.node
    → l.b.node ≡ (get_or links i e).b.node → HasSameNodes old (set links i l)
same_set old links i l e same low a b =
    (grind (arith, common_steps, same.0), λ k d. (grind (arith, common_steps, same.1 k d, same.1 k e), grind (arith, common_steps, same.1 k d, same.1 k e)))

-- All links that were written back are between the same nodes, and as distinct.
pub ends_whole : (m count : ℕ) (read links others rest : List Link) (n : ℕ) → m ≡ count → links ≡ read → length others ≡ n → HasSameNodes links others
    → All (IsBetween m) read → All (IsBetween count) (take n (others ++ rest))
ends_whole m count read links others rest n is seen whole same all =
    let A : ℕ → Type 0 = λ x. All (IsBetween x) read in
    let P : List Link → Type 0 = λ xs. All (IsBetween count) xs in
    subst P (sym (take_at others rest n whole)) (same_between count links others same (subst P (sym seen) (subst A is all)))

pub once_whole : (read links others rest : List Link) (n : ℕ) → links ≡ read → length others ≡ n → HasSameNodes links others → HasDistinctLinks read
    → HasDistinctLinks (take n (others ++ rest))
once_whole read links others rest n seen whole same distinct =
    let P : List Link → Type 0 = λ xs. HasDistinctLinks xs in
    subst P (sym (take_at others rest n whole)) (same_distinct links others same (subst P (sym seen) distinct))

-- The first element that passes, and none.
pub found_first : {X : Type 0} → (p : X → Bool) (xs : List X) (i : ℕ) (d : X) → AllWithin (λ x. p x ≡ false) xs 0 i → i < length xs
    → p (get_or xs i d) ≡ true → position p xs ≡ Some i
found_first p xs i d none low passes =
    let is : position_or_len p xs ≡ i = position_or_len_is p xs i d (omega arith) (λ k lower. none k d (omega arith) lower) (λ h. passes) in
    grind (arith, common_steps)

pub none_found : {X : Type 0} → (p : X → Bool) (xs : List X) (n : ℕ) → length xs ≤ n → AllWithin (λ x. p x ≡ false) xs 0 n → position p xs ≡ None
none_found p [] n end none = refl
none_found p (x ∷ xs) n end none =
    let is : position_or_len p (x ∷ xs) ≡ length (x ∷ xs) = position_or_len_is p (x ∷ xs) (length (x ∷ xs)) x (omega arith)
    (λ k low. none k x (omega arith) (omega arith)) (λ h. absurd (omega arith)) in
    grind (arith, common_steps)
