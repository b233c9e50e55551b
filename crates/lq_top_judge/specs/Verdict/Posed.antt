-- What is posed stands in memory, and what solving gave.
use Rattle.std.specs.Prelude.{ℕ, List, Result, Ok, Err}
use Rattle.lq_text_front.specs.Bytes.Stages.{Bytes}
use Rattle.lq_refined_types.specs.Parts.Constraint.{Constraint}
use Rattle.lq_top_pose.specs.Stages.{PosesTo, Typed}
use Rattle.lq_top_pose.specs.Views.{IsPosedView}
use Rattle.lq_top_pose.specs.declared.posing.PosedTexts.{PosedTexts}
use Rattle.lq_solve_strongest.specs.Weaken.Gathering.{AreGathered}
use Rattle.lq_solve_strongest.specs.Weaken.Stops.{StopsSolving}
use Rattle.lq_solve_fixpoint.specs.Weakening.Judging.{Instances}
use Rattle.lq_solve_fixpoint.specs.Weakening.Solving.{IsSolved}
use Rattle.lq_solve_fixpoint.specs.declared.weakening.error.SolveError.{SolveError}
use Rattle.lq_solve_fixpoint.specs.declared.weakening.solving.Solved.{Solved}

-- it is what is to be solved for some texts
pub record IsPosed (m : PosedTexts) : Type 0 where
  pub bytes : Bytes
  pub typed : Typed
  pub poses : PosesTo bytes (Ok typed)
  pub view : IsPosedView m typed

-- a strongest solution, or that there is none, where all implications can be gathered; or why solving stopped
abbrev pub IsSolution : ℕ → Instances → List Constraint → Result Solved SolveError → Type 0
IsSolution limit I cs (Ok s) = AreGathered I cs × IsSolved I cs s
IsSolution limit I cs (Err e) = StopsSolving limit I cs e
