-- When the strongest solution isn't found.
use Rattle.std.specs.Prelude.{◌≡◌, ℕ, List, Some, slice_get}
use Rattle.lq_refined_types.specs.Parts.Constraint.{Constraint}
use Rattle.lq_refined_types.specs.Parts.Flowing.{Selection, assigned}
use Rattle.lq_logic_predicates.specs.PredView.{formula_of}
use Rattle.lq_logic_predicates.specs.declared.pred.Stop.{Stop}
use Rattle.lq_logic_predicates.specs.declared.pred.Stop.TheVariants.{Number, Gather, Pivots, Memory}
use Rattle.lq_prover_valid.specs.Stopping.{IsSmallDifference, StopsProving}
use Rattle.lq_solve_fixpoint.specs.Questions.Assigned.{closed_under}
use Rattle.lq_solve_fixpoint.specs.Weakening.Judging.{Instances}
use Rattle.lq_solve_fixpoint.specs.declared.weakening.error.SolveError.{SolveError}
use Rattle.lq_solve_fixpoint.specs.declared.weakening.error.SolveError.TheVariants as error
use Rattle.lq_solve_strongest.specs.Weaken.Deciding.{IsDecidable}
use Rattle.lq_solve_strongest.specs.Weaken.Gathering.{AreGathered, IsFirstUngathered}

-- The prover, with this limit on pivots, may stop so on the implication of this number under some of its instances. Under these it isn't one
-- of differences whose sizes are small, nor is it decidable with all instances in place.
pub record StopsUnder (limit : ℕ) (I : Instances) (cs : List Constraint) (at : ℕ) (stop : Stop) : Type 0 where
  pub selection : Selection
  pub constraint : Constraint
  pub here : slice_get cs at ≡ Some constraint
  pub stops : StopsProving limit (closed_under (assigned I selection) constraint) stop
  pub large : IsSmallDifference (closed_under (assigned I selection) constraint) → ⊥
  pub beyond : IsDecidable limit (closed_under I constraint) → ⊥

-- with what a question about an implication stops, where all can be gathered
abbrev pub StopsAsking : ℕ → Instances → List Constraint → ℕ → Stop → Type 0
StopsAsking limit I cs at (Gather p) = ⊥
StopsAsking limit I cs at (Number e) = StopsUnder limit I cs at (Number e)
StopsAsking limit I cs at (Pivots k) = StopsUnder limit I cs at (Pivots k)
StopsAsking limit I cs at Memory = Unit {0}

abbrev pub MayStop : ℕ → Instances → List Constraint → ℕ → Stop → Type 0
MayStop limit I cs at stop = AreGathered I cs → StopsAsking limit I cs at stop

-- Of an implication with a literal that can't be gathered exactly the first one is told. With other stops it is one on which the prover
-- stopped, and each implication can be gathered. Want of memory is no implication's.
abbrev pub StopsSolving : ℕ → Instances → List Constraint → SolveError → Type 0
StopsSolving limit I cs (error.At at (Gather p)) = IsFirstUngathered I cs at (formula_of p)
StopsSolving limit I cs (error.At at (Number e)) = AreGathered I cs × StopsUnder limit I cs at (Number e)
StopsSolving limit I cs (error.At at (Pivots k)) = AreGathered I cs × StopsUnder limit I cs at (Pivots k)
StopsSolving limit I cs (error.At at Memory) = ⊥
StopsSolving limit I cs error.Memory = Unit {0}
