use Rattle.std.proofs.Common.{◌≡◌, List, ℕ, length, map, drop, refl, sym, ap, subst, arith}
use Rattle.std.proofs.lemmas.Grind.{common_steps}
use Rattle.babel_simulate.specs.Ways.{AreWays, AreAtOrigins, first_distance_at}
use Rattle.babel_simulate.proofs.Shortening.{first_zero, first_ways, ended}
use Rattle.babel_simulate.proofs.shortest.shortest_ways.Goals as goal

pub loop-distances-init : goal.loop-distances-init
loop-distances-init c =
    let origins = c.args.origins.now in
    let first : c.in_ok-distances.distances.items ≡ map first_distance_at c.args.origins.now = c.in_ok-distances.ensures in
    let same : length c.in_ok-distances.distances.items ≡ length (map first_distance_at c.args.origins.now) = ap length first in
    record {
      each = grind (arith, common_steps);
      zero = subst (λ (xs : List ℕ). AreAtOrigins origins xs) (sym first) (first_zero origins);
      ways = subst (λ (xs : List ℕ). AreWays origins c.args.edges.now xs) (sym first) (first_ways origins c.args.edges.now);
    }

pub returns-in-Done-clause-shortest : goal.returns-in-Done-clause-shortest
returns-in-Done-clause-shortest c =
    ended c.args.origins.now c.args.edges.now c.loop-distances.distances.items c.deref_mut.result.now c.shorten.new.distances
    (drop (length c.shorten.new.distances) c.loop-distances.distances.items) c.loop-distances.distances.len
    c.deref_mut.ensures.value c.shorten.ensures.lower (grind (arith, common_steps)) (grind (arith, common_steps))
    c.loop-distances.invariant.zero (c.in-Done.ensures.done refl)
