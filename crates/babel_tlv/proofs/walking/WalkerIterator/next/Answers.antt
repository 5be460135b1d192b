use Rattle.std.proofs.Common.{◌≡◌, rules, ◌∙◌, sym, ap, length, arith}
use Rattle.std.specs.List.{slice_range}
use Rattle.babel_tlv.specs.Place.{Ahead}
use Rattle.babel_tlv.proofs.Steps.{goes}
use Rattle.babel_tlv.proofs.walking.WalkerIterator.next.Goals as goal

pub returns-clause-steps : goal.returns-clause-steps
returns-clause-steps c =
    let bytes = c.self.inside.bytes.now in
    let o = c.self.inside.offset in
    let first = c.in_ok-kind in
    let step = goes bytes o first.kind (slice_range bytes first.start first.end) first.end c.self.invariant first.ensures.within.1 first.ensures.value in
    let forward = step.forward in
    let end : length bytes ≡ c.args.self.now.end = ap (λ (a : Ahead). a.end) c.self.view_is in
    record {
      gives = ap (λ (a : Ahead). a.places) (sym c.self.view_is) ∙ step.places;
      fault = sym step.fault ∙ ap (λ (a : Ahead). a.fault) c.self.view_is;
      end = end;
      within = omega (arith, first.ensures.within.1);
    }

pub returns-clause-goes : goal.returns-clause-goes
returns-clause-goes c =
    let shorter = ap length (returns-clause-steps c).gives in search rules
