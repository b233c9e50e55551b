use Rattle.std.proofs.Common.{◌<◌, ℕ, true, get_or}
use Rattle.lq_logic_predicates.specs.PredView.{formula_of}
use Rattle.lq_logic_predicates.specs.Reading.{reading_of, AllFitIn}
use Rattle.lq_logic_predicates.specs.declared.pred.Pred.{Pred}
use Rattle.lq_cases_engines.proofs.engines.askable.readings_fit.Given as goal

abbrev pub invariant-loop-pred : goal.invariant-loop-pred
invariant-loop-pred l = (k : ℕ) → k < l.pred-index → (d : Pred) → AllFitIn (reading_of true (formula_of (get_or l.preds k d)))
