use Rattle.std.proofs.Common.{◌+◌, ◌*◌}
use Rattle.lq_logic_predicates.specs.PredView.{formula_of}
use Rattle.lq_logic_predicates.proofs.FormulaSizes.{connectives}
use Rattle.lq_logic_predicates.proofs.tightening.+tighten.Given as goal

abbrev pub decreases-tighten : goal.decreases-tighten
decreases-tighten l = 2 * connectives (formula_of l.pred.now)

abbrev pub decreases-tighten_both : goal.decreases-tighten_both
decreases-tighten_both l = 2 * connectives (formula_of l.left.now) + 2 * connectives (formula_of l.right.now) + 1
