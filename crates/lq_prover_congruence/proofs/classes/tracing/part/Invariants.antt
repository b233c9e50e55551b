-- The climbs still meet.
use Rattle.std.proofs.Common.{ℕ, Option, length}
use Rattle.lq_prover_congruence.specs.Classes.Ways.{Meets}
use Rattle.lq_prover_congruence.specs.declared.classes.forest.Edge.{Edge}
use Rattle.lq_prover_congruence.proofs.classes.tracing.part.Given as goal

abbrev pub invariant-loop-hop : goal.invariant-loop-hop
invariant-loop-hop l = (f : ℕ → Option Edge) (a b : ℕ) → Meets f a l.initial.left.items b l.initial.right.items → Meets f a l.left.items b l.right.items

abbrev pub decreases-loop-hop : goal.decreases-loop-hop
decreases-loop-hop l = length l.left.items
