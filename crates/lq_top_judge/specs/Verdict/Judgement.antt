-- The judgement on a program with its measures and qualifiers.
use Rattle.std.specs.Prelude.{◌≡◌, ℕ, List, [], slice_index_or, Result, Ok, Err}
use Rattle.lq_text_front.specs.Bytes.Stages.{Bytes}
use Rattle.lq_top_answers.specs.Failure.Failures.{IsExplained, IsFailure, undecided_lines}
use Rattle.lq_top_answers.specs.Inferred.Lines.{Inferred, types_text_of}
use Rattle.lq_refined_types.specs.Parts.Assignment.{Assignment}
use Rattle.lq_refined_types.specs.Parts.Constraint.{AllMet, IsFirstFailing}
use Rattle.lq_refined_types.specs.Parts.Flowing.{IsFlowing, IsStrongest, Selection, assigned}
use Rattle.lq_refined_types.specs.Parts.Refuting.{FailsAt}
use Rattle.lq_top_pose.specs.Stages.{PosesTo, Typed, basis_in, constraints_in, implications_in, instances_in, read_in}
use Rattle.lq_logic_predicates.specs.Points.{Point}
use Rattle.lq_logic_predicates.specs.declared.pred.Stop.{Stop}
use Rattle.lq_solve_fixpoint.specs.Questions.Assigned.{closed_under}
use Rattle.lq_text_refusal.specs.Refusals.{code_of, refusal_line}
use Rattle.lq_text_refusal.specs.declared.refused.Refused.{Refused}
use Rattle.lq_solve_strongest.specs.Weaken.Gathering.{AreGathered}
use Rattle.lq_solve_strongest.specs.Weaken.Stops.{StopsSolving}
use Rattle.lq_solve_fixpoint.specs.Weakening.Judging.{Instances}
use Rattle.lq_solve_fixpoint.specs.declared.weakening.error.SolveError.TheVariants.{At}
use Rattle.lq_top_judge.specs.Verdict.Names.{called_in, writing_in}
use Rattle.lq_top_judge.specs.declared.verdict.judgement.Judgement.{Judgement}
use Rattle.lq_top_judge.specs.declared.verdict.judgement.Judgement.TheVariants.{Accepted, Rejected, Undecided}
use Rattle.lq_top_judge.specs.declared.verdict.judgement.Refusal.{Refusal}
use Rattle.lq_top_judge.specs.declared.verdict.judgement.Refusal.TheVariants.{Code, Memory}

-- the instances of each unknown; none of one that isn't there
abbrev pub instances_of : Typed → Instances
instances_of t u = slice_index_or (instances_in t) u []

-- ---- accepted

-- the templates of the program's points under an assignment
abbrev pub inferred_by : Typed → Assignment → Inferred
inferred_by t A = record { template = (basis_in t).template; assignment = A; writing = writing_in t }

abbrev pub types_by : Typed → Assignment → List ℕ
types_by t A = types_text_of (inferred_by t A) (read_in t)

-- All can be gathered, and there is a strongest solution; these are the types of the program's definitions under it.
pub record IsAccepted (t : Typed) (types : List ℕ) : Type 0 where
  pub gathered : AreGathered (instances_of t) (constraints_in t)
  pub solution : Selection
  pub strongest : IsStrongest (instances_of t) (constraints_in t) solution
  pub written : types ≡ types_by t (assigned (instances_of t) solution)

-- ---- rejected

-- All can be gathered. Under the greatest selection of instances that makes all flows valid this demand is the first that isn't, and it fails
-- at the point. So no assignment of instances makes all implications valid.
pub record Refutes (t : Typed) (at : ℕ) (solution : Selection) (p : Point) : Type 0 where
  pub gathered : AreGathered (instances_of t) (constraints_in t)
  pub flowing : IsFlowing (instances_of t) (constraints_in t) solution
  pub first : IsFirstFailing (assigned (instances_of t) solution) (constraints_in t) at
  pub fails : FailsAt (assigned (instances_of t) solution) first.constraint p
  pub none_solves : (d : Selection) → AllMet (assigned (instances_of t) d) (constraints_in t) → ⊥

-- the first text tells the demand and the point, the second one the implication as well
pub record IsRejected (t : Typed) (failure explained : List ℕ) : Type 0 where
  pub at : ℕ
  pub solution : Selection
  pub point : Point
  pub refutes : Refutes t at solution point
  pub failing : IsFailure (called_in t) (implications_in t) at (closed_under (assigned (instances_of t) solution) refutes.first.constraint) point failure
  pub explaining : IsExplained (called_in t) (implications_in t) at (closed_under (assigned (instances_of t) solution) refutes.first.constraint) point explained

-- ---- undecided

-- An implication has a literal that can't be gathered, and the first such is told; or the prover stopped on one, with at most so many pivots
-- of a check.
pub record IsUndecided (limit : ℕ) (t : Typed) (cause : List ℕ) : Type 0 where
  pub at : ℕ
  pub stop : Stop
  pub stops : StopsSolving limit (instances_of t) (constraints_in t) (At at stop)
  pub written : cause ≡ undecided_lines (called_in t) (implications_in t) at stop

-- ---- refused

-- the texts are refused for this reason
abbrev pub IsRefusedBy : Refused → ℕ → List ℕ → Type 0
IsRefusedBy r code line = (code ≡ code_of r) × (line ≡ refusal_line r)

-- ---- the judgement that is due

-- of what is to be solved
abbrev pub IsVerdictOn : ℕ → Typed → Judgement → Type 0
IsVerdictOn limit t (Accepted types) = IsAccepted t types
IsVerdictOn limit t (Rejected failure explained) = IsRejected t failure explained
IsVerdictOn limit t (Undecided cause) = IsUndecided limit t cause

-- of three texts
abbrev pub IsJudgement : ℕ → Bytes → Result Judgement Refusal → Type 0
IsJudgement limit b (Ok j) = (t : Typed) × PosesTo b (Ok t) × IsVerdictOn limit t j
IsJudgement limit b (Err (Code code line)) = (r : Refused) × PosesTo b (Err r) × IsRefusedBy r code line
IsJudgement limit b (Err Memory) = ⊥
