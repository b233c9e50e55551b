-- Solutions: selections of instances under which a program checks.
use Rattle.std.specs.Prelude.{ℕ, List, [], map}
use Rattle.lq_refined_types.specs.Parts.Constraint.{Constraint, AllMet, IsFirstFailing}
use Rattle.lq_refined_types.specs.Parts.Flowing.{Selection, assigned, IsWithin, IsFlowing}
use Rattle.lq_logic_predicates.specs.Formula.{Formula}
use Rattle.lq_refined_types.specs.Subtyping.Implication.{constraint_of}
use Rattle.lq_refined_rules.specs.Checks.Basis.{Basis}
use Rattle.lq_refined_rules.specs.Checks.Checks.{Checks}
use Rattle.lq_refined_rules.specs.Checks.Listing.{implications_of}
use Rattle.lq_refined_rules.specs.Checks.Ready.{IsReady}
use Rattle.lq_refined_rules.specs.Checks.Tree.{Program}

abbrev pub IsSolution : Basis → (ℕ → List Formula) → Program → Selection → Type 0
IsSolution P I p c = Checks P (assigned I c) [] p

-- a solution that holds every other
pub record IsStrongestSolution (P : Basis) (I : ℕ → List Formula) (p : Program) (c : Selection) : Type 0 where
  pub checks : IsSolution P I p c
  pub greatest : (d : Selection) → IsSolution P I p d → IsWithin I d c

abbrev pub constraints_of : Basis → Program → List Constraint
constraints_of P p = map constraint_of (implications_of P [] p)

-- The greatest selection that makes the flows of a program's list valid: where it makes the whole list valid, and where there is any
-- solution, it is the strongest one; where some demand is the first that isn't valid under it, there is none.
pub record Solve (P : Basis) (I : ℕ → List Formula) (p : Program) (c : Selection) : Type 0 where
  pub valid : AllMet (assigned I c) (constraints_of P p) → IsStrongestSolution P I p c
  pub solved : (d : Selection) → IsSolution P I p d → IsStrongestSolution P I p c
  pub refuted : (at : ℕ) → IsFirstFailing (assigned I c) (constraints_of P p) at → (d : Selection) → IsSolution P I p d → ⊥

abbrev pub FlowsSolve : Type 0
FlowsSolve =
    (P : Basis) (I : ℕ → List Formula) (p : Program) (c : Selection) → IsReady P [] p → IsFlowing I (constraints_of P p) c
    → Solve P I p c
