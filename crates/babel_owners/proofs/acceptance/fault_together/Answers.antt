-- The first test that holds decides.
use Rattle.std.proofs.Common.{◌≡◌, Bool, true, false, List, flat_map, Option, Some, None, cond, refl, sym, ap, ◌∙◌, rules, tests}
use Rattle.std.specs.List.{list_any}
use Rattle.std.proofs.lemmas.Iterator.{YieldsList-from_slice}
use Rattle.std.proofs.lemmas.Iterator.Search.{any_from_yields_List}
use Rattle.babel_state.specs.declared.configs.Config.{Config}
use Rattle.babel_machine.specs.declared.errors.NetFault.{NetFault}
use Rattle.babel_machine.specs.declared.errors.NetFault.TheVariants.{CollectsSources, AddressTwice, RouterIdTwice}
use Rattle.babel_machine.specs.Owners.{addresses_of}
use Rattle.babel_machine.specs.Acceptance.{has_addr_twice, has_router_twice, fault_together}
use Rattle.babel_owners.proofs.acceptance.fault_together.Goals as goal

abbrev first_of : Bool → Bool → Bool → Option NetFault
first_of a b c = cond a (Some CollectsSources) (cond b (Some AddressTwice) (cond c (Some RouterIdTwice) None))

by_tests : (a b c d e f : Bool) → a ≡ d → b ≡ e → c ≡ f → first_of d e f ≡ first_of a b c
by_tests a b c d e f p q r =
    ap (λ x. first_of x e f) (sym p) ∙ ap (λ x. first_of a x f) (sym q) ∙ ap (λ x. first_of a b x) (sym r)

at_first : (cs : List Config) (d e f : Bool) → list_any (λ (c : Config). c.collect) cs ≡ d → has_addr_twice (flat_map addresses_of cs) ≡ e → has_router_twice cs ≡ f → first_of d e f ≡ fault_together cs
at_first cs d e f p q r = by_tests (list_any (λ (c : Config). c.collect) cs) (has_addr_twice (flat_map addresses_of cs)) (has_router_twice cs) d e f p q r

pub returns-then-has_address_twice : goal.returns-then-has_address_twice
returns-then-has_address_twice c =
    let cs = c.args.configs.now in
    let any = any_from_yields_List (λ (d : Config). d.collect) _ _ c.any.result c.any.ensures.ran (YieldsList-from_slice cs cc) (λ x b q k. search (rules, tests)) in
    at_first cs false true (has_router_twice cs) (sym any ∙ c.if-any.false) (sym c.has_address_twice.ensures ∙ c.if-has_address_twice.true) refl

pub returns-then-has_router_twice : goal.returns-then-has_router_twice
returns-then-has_router_twice c =
    let cs = c.args.configs.now in
    let any = any_from_yields_List (λ (d : Config). d.collect) _ _ c.any.result c.any.ensures.ran (YieldsList-from_slice cs cc) (λ x b q k. search (rules, tests)) in
    at_first cs false false true (sym any ∙ c.if-any.false) (sym c.has_address_twice.ensures ∙ c.if-has_address_twice.false) (sym c.has_router_twice.ensures ∙ c.if-has_router_twice.true)

pub returns : goal.returns
returns c =
    let cs = c.args.configs.now in
    let any = any_from_yields_List (λ (d : Config). d.collect) _ _ c.any.result c.any.ensures.ran (YieldsList-from_slice cs cc) (λ x b q k. search (rules, tests)) in
    at_first cs false false false (sym any ∙ c.if-any.false) (sym c.has_address_twice.ensures ∙ c.if-has_address_twice.false) (sym c.has_router_twice.ensures ∙ c.if-has_router_twice.false)
