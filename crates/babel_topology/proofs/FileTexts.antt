-- What the texts of a file are about.
use Rattle.std.proofs.Common.{◌≡◌, ℕ, List, Option, Some, None, length, sym, subst, [], ◌∷◌, ◌++◌}
use Rattle.std.specs.Prelude.{IfSome, All}
use Rattle.std.proofs.lemmas.List.Elements.{All-push}
use Rattle.toml.specs.Data.{Members}
use Rattle.babel_text.specs.Readings.{Reads}
use Rattle.babel_topology.specs.declared.topology.Node.{Node}
use Rattle.babel_topology.specs.declared.topology.Link.{Link}
use Rattle.babel_topology.specs.declared.topology.Step.{Step}
use Rattle.babel_topology.specs.declared.topology.Expectation.{Expectation}
use Rattle.babel_topology.specs.Times.{IsTimeText}
use Rattle.babel_topology.specs.Actions.{IsAbout, IsExpectedAmong}
use Rattle.babel_topology.specs.Files.{text_of, IsTimeAt}

pub time_read : (key : List ℕ) (members : Members) (text : List ℕ) (time : Option ℕ) → text_of key members ≡ Some text → Reads IsTimeText text time
    → IfSome time (IsTimeAt key members)
time_read key entries text None is reads = tt
time_read key entries text (Some time) is reads = (text, is, reads)

-- One more step is about them.
pub about_grows : (nodes : List Node) (links : List Link) (old new : List Step) (step : Step) → new ≡ old ++ step ∷ []
    → IsAbout (length nodes) (length links) step.action → All (λ (s : Step). IsAbout (length nodes) (length links) s.action) old
    → All (λ (s : Step). IsAbout (length nodes) (length links) s.action) new
about_grows nodes links old new step is about inv =
    let P : List Step → Type 0 = λ xs. All (λ (s : Step). IsAbout (length nodes) (length links) s.action) xs in
    subst P (sym is) (All-push (λ (s : Step). IsAbout (length nodes) (length links) s.action) old step inv about)

-- They are about as many nodes and links.
pub about_counted : (m count n links : ℕ) (steps : List Step) → m ≡ count → n ≡ links → All (λ (s : Step). IsAbout m n s.action) steps
    → All (λ (s : Step). IsAbout count links s.action) steps
about_counted m count n links steps is same all =
    let P : ℕ → Type 0 = λ x. All (λ (s : Step). IsAbout x n s.action) steps in
    let Q : ℕ → Type 0 = λ x. All (λ (s : Step). IsAbout count x s.action) steps in
    subst Q same (subst P is all)

pub among_counted : (m count : ℕ) (expectations : List Expectation) → m ≡ count → All (IsExpectedAmong m) expectations
    → All (IsExpectedAmong count) expectations
among_counted m count expectations is all = let P : ℕ → Type 0 = λ x. All (IsExpectedAmong x) expectations in subst P is all
