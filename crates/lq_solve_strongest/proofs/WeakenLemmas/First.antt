-- Where one implication is the first that can't be gathered, not all can.
use Rattle.std.proofs.Common.{ℕ, List}
use Rattle.lq_prover_proof_tree.proofs.LiteralsLemmas.Fits.{sources_gathered}
use Rattle.lq_prover_proof_tree.proofs.LiteralsLemmas.Leading.{first_not}
use Rattle.lq_prover_proof_tree.specs.Literals.Sources.{sources_of}
use Rattle.lq_refined_types.specs.Parts.Constraint.{Constraint}
use Rattle.lq_logic_predicates.specs.ClosedImplication.{ClosedImplication}
use Rattle.lq_logic_predicates.specs.Formula.{Formula}
use Rattle.lq_solve_fixpoint.specs.Questions.Assigned.{closed_under}
use Rattle.lq_solve_fixpoint.specs.Weakening.Judging.{Instances}
use Rattle.lq_solve_strongest.specs.Weaken.Gathering.{AreGathered, IsFirstUngathered}

pub first_is_not : (I : Instances) (cs : List Constraint) (at : ℕ) (p : Formula) → IsFirstUngathered I cs at p → AreGathered I cs → ⊥
first_is_not I cs at p f g =
    let i : ClosedImplication = closed_under I f.constraint in first_not (sources_of i) p f.past ((sources_gathered i).1 (g at f.constraint f.here))
