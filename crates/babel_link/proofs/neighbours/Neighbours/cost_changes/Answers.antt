-- Each link was looked at, and all costs but at most one stay.
use Rattle.std.proofs.Common.{◌≡◌, ℕ, ◌+◌, ◌<◌, ◌≤◌, [], All, Some, length, take, get_or, refl, sym, ap, subst, ◌∙◌, arith, inl, inr}
use Rattle.std.proofs.lemmas.List.{take_all}
use Rattle.std.proofs.lemmas.List.Elements.{All-more}
use Rattle.babel_value.specs.declared.keys.Peer.{Peer}
use Rattle.babel_link.specs.declared.changes.CostChanges.{CostChanges}
use Rattle.babel_link.specs.declared.changes.CostChanges.TheVariants.{Nothing, One, Several}
use Rattle.babel_link.specs.declared.links.Link.{Link}
use Rattle.babel_link.specs.Links.{ticked_link}
use Rattle.babel_link.specs.Neighbours.{Links, gone_of, cost_changes_of}
use Rattle.babel_link.proofs.CostLemmas.{Keeps, KeepsOther, all_seen, costs_kept, none_gone, keeps_other, all_keep_other, changed_stays, other_costs_kept, none_gone_but}
use Rattle.babel_link.proofs.ExactLemmas.{exact_stays, exact_gone}
use Rattle.babel_link.proofs.neighbours.Neighbours.cost_changes.Goals as goal

-- One more link.
one_more : (P : Peer × Link → Type 0) (place : ℕ) (e : Peer × Link) (items links : Links) → place < length items → items ≡ links → e ≡ get_or items place e → All P (take place links) → P e → All P (take (place + 1) links)
one_more P place e items links within same read before here =
    subst (λ (xs : Links). All P (take (place + 1) xs)) same
    (All-more P items place e within (subst (λ (xs : Links). All P (take place xs)) (sym same) before) (subst P read here))

pub loop-place-preserved : goal.loop-place-preserved
loop-place-preserved c =
    let now = c.args.now in
    let items = c.self.inside.links.items in
    let place = c.loop-place.place in
    let e = c.index.result.now in
    let link = c.tick_cost.new.self in
    let before = c.loop-place.invariant in
    let ok = c.self.inside.links.ok.0 in
    let within : place < length items = omega arith in
    let stays : ticked_link now e.1 ≡ Some link = c.in-Some.ensures.stays refl in
    let more = λ (P : Peer × Link → Type 0) (all : All P (take place c.args.self.now)) (here : P e). one_more P place e items _ within c.self.view_is c.index.ensures all here in
    record {
      nothing = λ is.
          let both = c.add.ensures.nothing is in
          more (Keeps now) (before.nothing both.0) (record { after = link; stays = stays; same = c.in-Some.ensures.kept (ap Some both.1) });
      one = λ peer is. elim (c.add.ensures.one peer is) [
        | inl both ↦ more (KeepsOther now peer) (before.one peer both.0) (keeps_other now peer e (record { after = link; stays = stays; same = c.in-Some.ensures.kept (ap Some both.1) }))
        | inr both ↦ more (KeepsOther now peer) (all_keep_other now peer _ (before.nothing both.0)) (changed_stays now peer e link both.1 stays)
      ];
      exact = exact_stays now c.args.self.now place e (subst (λ (xs : Links). place < length xs) c.self.view_is within) (subst (λ (xs : Links). e ≡ get_or xs place e) c.self.view_is c.index.ensures) link c.in-Some.cost c.loop-place.changes c.add.new.self stays
          (λ same. c.in-Some.ensures.kept (ap Some same) 0) (λ other. c.in-Some.ensures.changed (ap Some other)) c.add.ensures.kept c.add.ensures.first c.add.ensures.more before.exact;
    }

-- The walk ended after the last link.
every : (c : goal.After-loop-place) (P : Peer × Link → Type 0) → All P (take c.loop-place.place c.args.self.now) → All P c.args.self.now
every c P all =
    let items = c.self.inside.links.items in
    let ok = c.self.inside.links.ok.0 in
    let past : length items ≤ c.loop-place.place = omega arith in
    all_seen P c.loop-place.place c.args.self.now (subst (λ (xs : Links). length xs ≤ c.loop-place.place) c.self.view_is past) all

pub returns-clause-costs : goal.returns-clause-costs
returns-clause-costs c is = costs_kept c.args.now c.args.self.now (every c (Keeps c.args.now) (c.loop-place.invariant.nothing is))

pub returns-clause-others : goal.returns-clause-others
returns-clause-others c peer is = other_costs_kept c.args.now peer c.args.self.now (every c (KeepsOther c.args.now peer) (c.loop-place.invariant.one peer is))

pub returns-clause-exact : goal.returns-clause-exact
returns-clause-exact c =
    let items = c.self.inside.links.items in
    let ok = c.self.inside.links.ok.0 in
    let past : length items ≤ c.loop-place.place = omega arith in
    c.loop-place.invariant.exact ∙ ap (cost_changes_of c.args.now) (take_all c.loop-place.place c.args.self.now (subst (λ (xs : Links). length xs ≤ c.loop-place.place) c.self.view_is past))

pub returns-in-None-clause-exact : goal.returns-in-None-clause-exact
returns-in-None-clause-exact c =
    let items = c.self.inside.links.items in
    let place = c.loop-place.place in
    let e = c.index.result.now in
    let ok = c.self.inside.links.ok.0 in
    let within : place < length items = omega arith in
    sym (exact_gone c.args.now c.args.self.now place e (subst (λ (xs : Links). place < length xs) c.self.view_is within) (subst (λ (xs : Links). e ≡ get_or xs place e) c.self.view_is c.index.ensures) (c.in-None.ensures.flushed refl))

pub returns-clause-gone : goal.returns-clause-gone
returns-clause-gone c known = by c.loop-place.changes refl
  where
    by : (changes : CostChanges) → c.loop-place.changes ≡ changes → gone_of c.args.now c.args.self.now ≡ []
    by Nothing is = none_gone c.args.now c.args.self.now (every c (Keeps c.args.now) (c.loop-place.invariant.nothing is))
    by (One peer) is = none_gone_but c.args.now peer c.args.self.now (every c (KeepsOther c.args.now peer) (c.loop-place.invariant.one peer is))
    by Several is = absurd (known is)
