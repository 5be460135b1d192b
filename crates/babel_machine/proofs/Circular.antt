-- The circular order on lifted seqnos, and what it makes of source entries.
use Rattle.std.proofs.Common.{◌≡◌, ◌⊎◌, ◌<◌, ◌≤◌, ℕ, ◌+◌, ◌%◌, true, nat_lt, inl, inr, arith}
use Rattle.std.proofs.lemmas.Bool.{cases_lt}
use Rattle.std.proofs.lemmas.Bool.Decides.{nat_tests}
use Rattle.babel_value.specs.declared.distances.Distance.{Distance}
use Rattle.babel_value.specs.Distances.{is_better}
use Rattle.babel_value.specs.Seqnos.{lift, is_before}
use Rattle.babel_value.proofs.Lifting.{order_lifted}
use Rattle.babel_machine.specs.declared.machine.pair.Pair.{Pair}
use Rattle.babel_machine.specs.Machine.{IsBetterPair}
use Rattle.babel_machine.specs.Views.{NetSource, lifted}

same_lifted : (start a b : ℕ) → start < 65536 → a < 65536 → b < 65536 → lift start a ≡ lift start b → a ≡ b
same_lifted start a b s0 a0 b0 same = grind (arith, nat_tests)

pub lift_back : (start n : ℕ) → start < 65536 → n ≤ 32767 → lift start ((start + n) % 65536) ≡ n
lift_back start n s0 n0 = grind (arith, nat_tests)

-- a distance whose seqno is a word, and was reached by the count
pub record IsReached (s : NetSource) (raises : ℕ) (d : Distance) : Type 0 where
  pub word : d.seqno < 65536
  pub reached : lift s.start d.seqno ≤ raises

pub better_lifted : (s : NetSource) (raises : ℕ) (d e : Distance) → s.start < 65536 → raises ≤ 32767 → IsReached s raises d → IsReached s raises e → is_better d e ≡ true → IsBetterPair (lifted s d) (lifted s e)
better_lifted s raises d e s0 r0 hd he is =
    by (order_lifted s.start e.seqno d.seqno s0 he.word hd.word (omega (arith, he.reached)) (omega (arith, hd.reached)))
  where
    by : is_before e.seqno d.seqno ≡ nat_lt (lift s.start e.seqno) (lift s.start d.seqno) → IsBetterPair (lifted s d) (lifted s e)
    by order = grind (arith, nat_tests, order, is)

pub lifted_better : (s : NetSource) (raises : ℕ) (d e : Distance) → s.start < 65536 → raises ≤ 32767 → IsReached s raises d → IsReached s raises e → IsBetterPair (lifted s d) (lifted s e) → is_better d e ≡ true
lifted_better s raises d e s0 r0 hd he better =
    by (order_lifted s.start e.seqno d.seqno s0 he.word hd.word (omega (arith, he.reached)) (omega (arith, hd.reached))) (same_lifted s.start d.seqno e.seqno s0 hd.word he.word)
  where
    by : is_before e.seqno d.seqno ≡ nat_lt (lift s.start e.seqno) (lift s.start d.seqno) → (lift s.start d.seqno ≡ lift s.start e.seqno → d.seqno ≡ e.seqno) → is_better d e ≡ true
    by order same = grind (arith, nat_tests, order, same, better)

-- what is better than a pair is better than all that isn't
pub better_through : (p q r : Pair) → IsBetterPair p q → (IsBetterPair r q → ⊥) → IsBetterPair p r
better_through p q r better not = by (cases_lt q.raises r.raises) (cases_lt r.raises q.raises) (cases_lt r.metric q.metric)
  where
    by : ((q.raises < r.raises) ⊎ (r.raises ≤ q.raises)) → ((r.raises < q.raises) ⊎ (q.raises ≤ r.raises)) → ((r.metric < q.metric) ⊎ (q.metric ≤ r.metric)) → IsBetterPair p r
    by (inl more) _ _ = absurd (not (inl more))
    by (inr _) (inl less) _ = inl (reach better)
      where
        reach : IsBetterPair p q → r.raises < p.raises
        reach (inl h) = omega (arith, h, less)
        reach (inr h) = omega (arith, h.0, less)
    by (inr a) (inr b) (inl closer) = absurd (not (inr (omega (arith, a, b), closer)))
    by (inr a) (inr b) (inr further) = reach better
      where
        reach : IsBetterPair p q → IsBetterPair p r
        reach (inl h) = inl (omega (arith, h, a))
        reach (inr h) = inr (omega (arith, h.0, a, b), omega (arith, h.1, further))
