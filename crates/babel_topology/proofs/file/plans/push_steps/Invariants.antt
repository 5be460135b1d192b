-- The steps so far are about nodes and links of the file, in order, and none is later than the end, if that was so at first.
use Rattle.std.specs.Prelude.{All, length}
use Rattle.babel_topology.specs.declared.topology.Step.{Step}
use Rattle.babel_topology.specs.Plans.{IsInOrder, EndsBy}
use Rattle.babel_topology.specs.Actions.{IsAbout}
use Rattle.babel_topology.proofs.file.plans.push_steps.Given as goal

abbrev pub invariant-loop-number : goal.invariant-loop-number
invariant-loop-number l =
    (All (λ (s : Step). IsAbout (length l.nodes) (length l.links) s.action) l.initial.steps.items
    → All (λ (s : Step). IsAbout (length l.nodes) (length l.links) s.action) l.steps.items)
    × (IsInOrder l.initial.steps.items → IsInOrder l.steps.items) × (EndsBy l.duration l.initial.steps.items → EndsBy l.duration l.steps.items)
