-- No two so far have one label.
use Rattle.std.proofs.Common.{◌≡◌, ℕ, take, slice_index}
use Rattle.lq_prover_congruence.specs.Classes.Steps.{IsDifference}
use Rattle.lq_prover_congruence.specs.Classes.Standing.{steps_of}
use Rattle.lq_prover_congruence.proofs.classes.differing.first_clash.Given as goal

abbrev pub invariant-loop-entry : goal.invariant-loop-entry
invariant-loop-entry l = (a b : ℕ) → IsDifference (steps_of (take l.entry-index l.trail)) a b → slice_index l.labels a ≡ slice_index l.labels b → ⊥
