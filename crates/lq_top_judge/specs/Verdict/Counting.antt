-- How much is solved for a program.
use Rattle.std.specs.Prelude.{◌≡◌, ℕ, ◌+◌, List, [], ◌∷◌, length}
use Rattle.lq_refined_instances.specs.Instances.{told}
use Rattle.lq_top_pose.specs.Stages.{Typed, implications_in, instances_in}
use Rattle.lq_logic_predicates.specs.Formula.{Formula}
use Rattle.lq_top_judge.specs.declared.verdict.counting.Counts.{Counts}

abbrev pub instance_total : List (List Formula) → ℕ
instance_total [] = 0
instance_total (l ∷ ls) = length l + instance_total ls

-- the unknowns, their instances, of which no more than 2^64 - 1 are told, and the implications
pub record HasCounts (t : Typed) (c : Counts) : Type 0 where
  pub unknowns : c.unknowns ≡ length (instances_in t)
  pub instances : c.instances ≡ told (instance_total (instances_in t))
  pub implications : c.implications ≡ length (implications_in t)
