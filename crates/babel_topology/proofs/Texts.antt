-- Two parts of a text, numbers, times, and what has them.
use Rattle.std.proofs.Common.{◌≡◌, ℕ, List, Option, Some, None, sym, subst, ◌∙◌, arith}
use Rattle.std.specs.Option.{option_zip}
use Rattle.std.proofs.lemmas.Fmt.{decimal_injective}
use Rattle.babel_text.specs.Readings.{Reads}
use Rattle.babel_text.specs.Numbers.{IsNumberText}
use Rattle.babel_value.specs.Prefixes.{PrefixValue}
use Rattle.babel_topology.specs.declared.times.TimeUnit.{TimeUnit}
use Rattle.babel_topology.specs.declared.verbs.Verb.{Verb}
use Rattle.babel_topology.specs.declared.topology.Node.{Node}
use Rattle.babel_topology.specs.declared.topology.Link.{Link}
use Rattle.babel_topology.specs.declared.topology.Action.{Action}
use Rattle.babel_topology.specs.declared.topology.NextHop.{NextHop}
use Rattle.babel_topology.specs.declared.topology.Step.{Step}
use Rattle.babel_topology.specs.declared.topology.Expectation.{Expectation}
use Rattle.babel_topology.specs.Words.{HasMark, before_mark, after_mark, blank, dash, IsPair}
use Rattle.babel_topology.specs.Times.{IsUnitText, centiseconds, IsTimedText}
use Rattle.babel_topology.specs.Names.{node_named, link_of, IsNodeText, IsLinkText}
use Rattle.babel_topology.specs.Actions.{HasFields, IsActionText, IsStepText, IsRouteText, IsExpectationText}

module _ {A B : Type 0} (IsWord : List ℕ → A → Type 0) (IsRest : List ℕ → B → Type 0) (text word rest : List ℕ) where
  pub pair : (a : A) (b : B) → HasMark blank text → word ≡ before_mark blank text → rest ≡ after_mark blank text → IsWord word a → IsRest rest b → IsPair IsWord IsRest text (a, b)
  pair a b marked is follows h k = (marked, rw (sym is) h, rw (sym follows) k)

  pub no_word : word ≡ before_mark blank text → ((a : A) → ¬ (IsWord word a)) → (p : A × B) → ¬ (IsPair IsWord IsRest text p)
  no_word is none p h = none p.0 (rw is h.1)

  pub no_rest : rest ≡ after_mark blank text → ((b : B) → ¬ (IsRest rest b)) → (p : A × B) → ¬ (IsPair IsWord IsRest text p)
  no_rest follows none p h = none p.1 (rw follows h.2)

  -- What reads both parts reads the pair.
  pub pair_reads : (a : Option A) (b : Option B) → HasMark blank text → word ≡ before_mark blank text → rest ≡ after_mark blank text
      → Reads IsWord word a → Reads IsRest rest b → Reads (IsPair IsWord IsRest) text (option_zip a b)
  pair_reads None b marked is follows none other = no_word is none
  pair_reads (Some a) None marked is follows first none = no_rest follows none
  pair_reads (Some a) (Some b) marked is follows first second = pair a b marked is follows first second

-- A text is one number only.
pub same_number : (text : List ℕ) (m n : ℕ) → IsNumberText 16 text m → IsNumberText 16 text n → m ≡ n
same_number text m n (small, is) (low, same) = decimal_injective m n (omega arith) (omega arith) (sym is ∙ same)

pub timed : (text count later unit rest : List ℕ) (n : ℕ) (u : TimeUnit) (time : ℕ) → HasMark blank text → count ≡ before_mark blank text
    → later ≡ after_mark blank text → HasMark blank later → unit ≡ before_mark blank later → rest ≡ after_mark blank later
    → IsNumberText 16 count n → IsUnitText unit u → time ≡ centiseconds n u → IsTimedText text time rest
timed text count later unit rest n u time marked is follows again unit_is ends number unit_text same =
    (marked, rw (sym follows) again, rw (sym follows) ends, ((n, u), rw (sym is) number, rw (sym follows) (rw (sym unit_is) unit_text), same))

-- What reads a node is what finds it.
pub node_reads : (nodes : List Node) (text : List ℕ) (node : Option ℕ) → node ≡ node_named nodes text → Reads (IsNodeText nodes) text node
node_reads nodes text None is = λ value h. let same : None ≡ Some value = is ∙ h in cc
node_reads nodes text (Some node) is = sym is

-- What reads a link is what finds it.
pub link_reads : (nodes : List Node) (links : List Link) (text a b : List ℕ) (x y link : Option ℕ) → HasMark dash text → a ≡ before_mark dash text
    → b ≡ after_mark dash text → x ≡ node_named nodes a → y ≡ node_named nodes b → link ≡ link_of links x y → Reads (IsLinkText nodes links) text link
link_reads nodes links text a b x y None marked first second is_x is_y is = λ value h.
    let found : link_of links x y ≡ Some value = rw (is_x, is_y, first, second) h.1 in
    let same : None ≡ Some value = is ∙ found in cc
link_reads nodes links text a b x y (Some link) marked first second is_x is_y is =
    (marked, rw (sym first, sym second, sym is_x, sym is_y) (sym is))

-- What follows a verb is what follows the same verb.
pub has_fields : (nodes : List Node) (links : List Link) (verb same : Verb) (text : List ℕ) (action : Action) → verb ≡ same
    → HasFields nodes links same text action → HasFields nodes links verb text action
has_fields nodes links verb same text action is h = let P : Verb → Type 0 = λ v. HasFields nodes links v text action in subst P (sym is) h

pub no_fields : (nodes : List Node) (links : List Link) (verb same : Verb) (text : List ℕ) (read : Option Action) → verb ≡ same → read ≡ None
    → ((action : Action) → ¬ (HasFields nodes links same text action)) → Reads (HasFields nodes links verb) text read
no_fields nodes links verb same text None is read none = λ action h.
    let P : Verb → Type 0 = λ v. HasFields nodes links v text action in none action (subst P is h)
no_fields nodes links verb same text (Some action) is read none = cc

-- What a text lacks that its parts lack.
pub no_field : {A : Type 0} (P : A → Type 0) (make : A → Action) → ((a : A) → ¬ (P a)) → (action : Action) → ¬ ((a : A) × P a × (action ≡ make a))
no_field P make none action h = none h.0 h.1

pub no_step_time : (nodes : List Node) (links : List Link) (text later : List ℕ) → later ≡ after_mark blank text
    → ((time : ℕ) (rest : List ℕ) → ¬ (IsTimedText later time rest)) → (step : Step) → ¬ (IsStepText nodes links text step)
no_step_time nodes links text later follows none step h =
    let P : List ℕ → Type 0 = λ t. IsTimedText t step.at h.2.0 in none step.at h.2.0 (subst P (sym follows) h.2.1)

pub no_step_action : (nodes : List Node) (links : List Link) (text later rest : List ℕ) → later ≡ after_mark blank text
    → rest ≡ after_mark blank (after_mark blank later) → ((action : Action) → ¬ (IsActionText nodes links rest action)) → (step : Step)
    → ¬ (IsStepText nodes links text step)
no_step_action nodes links text later rest follows ends none step h =
    let P : List ℕ → Type 0 = λ t. rest ≡ after_mark blank (after_mark blank t) in
    let here : rest ≡ after_mark blank (after_mark blank (after_mark blank text)) = subst P follows ends in
    let same : h.2.0 ≡ rest = h.2.1.2 ∙ sym here in
    let Q : List ℕ → Type 0 = λ t. IsActionText nodes links t step.action in
    none step.action (subst Q same h.2.2)

pub no_expectation_time : (nodes : List Node) (text : List ℕ) → ((time : ℕ) (rest : List ℕ) → ¬ (IsTimedText text time rest)) → (e : Expectation)
    → ¬ (IsExpectationText nodes text e)
no_expectation_time nodes text none e h = none e.at h.0 h.1

pub no_expectation_route : (nodes : List Node) (text rest : List ℕ) → rest ≡ after_mark blank (after_mark blank text)
    → ((p : ℕ × (PrefixValue × NextHop)) → ¬ (IsPair (IsNodeText nodes) (IsRouteText nodes) rest p)) → (e : Expectation) → ¬ (IsExpectationText nodes text e)
no_expectation_route nodes text rest ends none e h =
    let same : h.0 ≡ rest = h.1.2 ∙ sym ends in
    let P : List ℕ → Type 0 = λ t. IsPair (IsNodeText nodes) (IsRouteText nodes) t (e.node, (e.prefix, e.hop)) in
    none (e.node, (e.prefix, e.hop)) (subst P same h.2)
