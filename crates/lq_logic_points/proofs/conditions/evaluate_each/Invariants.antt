use Rattle.std.proofs.Common.{◌≡◌, ◌<◌, ℕ, true, get_or}
use Rattle.lq_logic_predicates.specs.PredView.{formula_of}
use Rattle.lq_logic_predicates.specs.Reading.{reading_of}
use Rattle.lq_logic_predicates.specs.TableView.{terms_of}
use Rattle.lq_logic_predicates.specs.declared.pred.Pred.{Pred}
use Rattle.lq_logic_points.specs.Evaluation.{Evaluates}
use Rattle.lq_logic_points.proofs.conditions.evaluate_each.Given as goal

abbrev pub invariant-loop-pred : goal.invariant-loop-pred
invariant-loop-pred l = record {
  same : terms_of l.table ≡ terms_of l.fn.table;
  done : (k : ℕ) → k < l.pred-index → (d : Pred) → Evaluates (terms_of l.table) l.numbers (reading_of true (formula_of (get_or l.preds k d)));
}
