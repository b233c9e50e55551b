-- The merges so far are of names.
use Rattle.std.proofs.Common.{ℕ, take}
use Rattle.lq_prover_congruence.specs.Classes.Chains.{IsNameIn}
use Rattle.lq_prover_congruence.specs.Classes.Steps.{IsMerge}
use Rattle.lq_prover_congruence.specs.Classes.Standing.{steps_of}
use Rattle.lq_prover_congruence.proofs.classes.state.State.merges_names.Given as goal

abbrev pub invariant-loop-entry : goal.invariant-loop-entry
invariant-loop-entry l = (a b r : ℕ) → IsMerge (steps_of (take l.entry-index l.self.trail.items)) a b r → IsNameIn l.self.known a × IsNameIn l.self.known b
