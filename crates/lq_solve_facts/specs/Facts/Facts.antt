-- Facts in order. None of them is about objects.
use Rattle.std.specs.Prelude.{◌≡◌, ℕ, pos, List, ◌++◌}
use Rattle.lq_prover_case.specs.State.PathState.{PathState, facts_in}
use Rattle.lq_prover_proof_tree.specs.Trees.Path.{Fact}
use Rattle.lq_logic_predicates.specs.Sum.{Sum, whole}

-- a name for each object, of which there are none
abbrev pub nobody : ℕ → Sum
nobody k = whole (pos 0)

abbrev pub facts_of : PathState → List Fact
facts_of s = facts_in nobody s

-- the later facts are the earlier ones with more behind
pub record Grows (old new : List Fact) : Type 0 where
  pub more : List Fact
  pub is : new ≡ old ++ more
