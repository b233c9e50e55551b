-- The conjunction so far.
use Rattle.std.proofs.Common.{◌≡◌, map, take}
use Rattle.lq_refined_types.specs.Parts.Assignment.{joined}
use Rattle.lq_logic_predicates.specs.PredView.{formula_of}
use Rattle.lq_solve_fixpoint.proofs.questions.asking.join.Given as goal

abbrev pub invariant-loop-pred : goal.invariant-loop-pred
invariant-loop-pred l = formula_of l.made ≡ joined (formula_of l.initial.made) (map formula_of (take l.pred-index l.rest))
