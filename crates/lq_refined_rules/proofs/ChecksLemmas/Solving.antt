-- The greatest selection for the flows of a program's list is its strongest solution, or there is none.
use Rattle.std.proofs.Common.{ℕ, List, []}
use Rattle.lq_refined_types.specs.Parts.Constraint.{AllMet}
use Rattle.lq_refined_types.specs.Parts.Flowing.{Selection, assigned, IsFlowing, IsStrongest, FlowingSolves, FailingRefutes, FlowingIsStrongest}
use Rattle.lq_logic_predicates.specs.Formula.{Formula}
use Rattle.lq_refined_rules.specs.Checks.Basis.{Basis}
use Rattle.lq_refined_rules.specs.Checks.Laws.{ListIsChecks}
use Rattle.lq_refined_rules.specs.Checks.Ready.{IsReady}
use Rattle.lq_refined_rules.specs.Checks.Solutions.{IsSolution, IsStrongestSolution, constraints_of, Solve}
use Rattle.lq_refined_rules.specs.Checks.Tree.{Program}

module _ (law : ListIsChecks) (solves : FlowingSolves) (refutes : FailingRefutes) (strongest : FlowingIsStrongest) where
  module _ (P : Basis) (I : ℕ → List Formula) (p : Program) (c : Selection) (ready : IsReady P [] p) where
    listed : (d : Selection) → IsSolution P I p d → AllMet (assigned I d) (constraints_of P p)
    listed d s = (law P (assigned I d) p ready).1 s

    solution : IsStrongest I (constraints_of P p) c → IsStrongestSolution P I p c
    solution s = record { checks = (law P (assigned I c) p ready).0 s.meets; greatest = λ d t. s.greatest d (listed d t) }

    pub flows_solve : IsFlowing I (constraints_of P p) c → Solve P I p c
    flows_solve f = record {
      valid = λ m. solution (strongest I (constraints_of P p) c f m);
      solved = λ d s. solution (solves I (constraints_of P p) c d f (listed d s));
      refuted = λ at first d s. refutes I (constraints_of P p) c d at f first (listed d s);
    }
