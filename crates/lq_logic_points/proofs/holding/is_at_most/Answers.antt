use Rattle.lq_base_numbers.specs.Fractions.Value.{value_of}
use Rattle.std.proofs.Common.{refl}
use Rattle.lq_logic_points.proofs.Order.{at_most_from}
use Rattle.lq_logic_points.proofs.holding.is_at_most.Goals as goal

pub returns-in-Less : goal.returns-in-Less
returns-in-Less c = (λ h. at_most_from c.cmp.result (value_of c.args.left.now) (value_of c.args.right.now) c.cmp.ensures.order c.in-Less.is, λ h. refl)
