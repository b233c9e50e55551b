use Rattle.std.proofs.Common.{sym}
use Rattle.lq_base_numbers.specs.Fractions.Value.{value_of}
use Rattle.lq_base_numbers.specs.Rationals.OrderLaws.{≤ℚ_from_same, ≤ℚ_from_below}
use Rattle.lq_prover_simplex.proofs.limits.is_below.Goals as goal

pub returns-in-Equal-clause-no : goal.returns-in-Equal-clause-no
returns-in-Equal-clause-no c = λ h. ≤ℚ_from_same (value_of c.args.right.now) (value_of c.args.left.now) (sym c.in-Equal.ensures.order)

pub returns-in-Greater-clause-no : goal.returns-in-Greater-clause-no
returns-in-Greater-clause-no c = λ h. ≤ℚ_from_below (value_of c.args.right.now) (value_of c.args.left.now) c.in-Greater.ensures.order
