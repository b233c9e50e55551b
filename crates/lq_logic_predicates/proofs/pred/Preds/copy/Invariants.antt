use Rattle.std.proofs.Common.{◌≡◌, map, take}
use Rattle.lq_logic_predicates.specs.PredView.{formula_of}
use Rattle.lq_logic_predicates.proofs.pred.Preds.copy.Given as goal

abbrev pub invariant-loop-pred : goal.invariant-loop-pred
invariant-loop-pred l = map formula_of l.copied.items ≡ map formula_of (take l.pred-index l.pred-items)
