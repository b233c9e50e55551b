-- The formula that a predicate of the code stands for.
use Rattle.std.specs.Prelude.{List, map}
use Rattle.lq_logic_predicates.specs.Formula.{Formula, truth, falsity, flag, compare, objects, negation, conjunction, disjunction, equivalence}
use Rattle.lq_logic_predicates.specs.TermView.{sum_of}
use Rattle.lq_logic_predicates.specs.ClosedImplication.{ClosedImplication}
use Rattle.lq_logic_predicates.specs.declared.pred.Closed.{Closed}
use Rattle.lq_logic_predicates.specs.declared.pred.Preds.{Preds}
use Rattle.lq_logic_predicates.specs.declared.pred.Pred.{Pred, True, False, Flag, Compare, Same, Not', And', Or', Iff'}

abbrev pub formula_of : Pred → Formula
formula_of True = truth
formula_of False = falsity
formula_of (Flag x) = flag x
formula_of (Compare op a b) = compare op (sum_of a) (sum_of b)
formula_of (Same a b) = objects (sum_of a) (sum_of b)
formula_of (Not' p a) = negation (formula_of a)
formula_of (And' p a q b) = conjunction (formula_of a) (formula_of b)
formula_of (Or' p a q b) = disjunction (formula_of a) (formula_of b)
formula_of (Iff' p a q b) = equivalence (formula_of a) (formula_of b)

-- the predicates of a row
abbrev pub pred_items : Preds → List Pred
pred_items preds = preds.items.items

-- the implication that a closed one of the code stands for
abbrev pub implication_of : Closed → ClosedImplication
implication_of i = record { hypotheses = map formula_of (pred_items i.hypotheses); goal = formula_of i.goal }
