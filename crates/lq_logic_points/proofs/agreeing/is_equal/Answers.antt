use Rattle.lq_base_numbers.specs.Fractions.Value.{value_of}
use Rattle.lq_logic_points.proofs.Order.{apart_from}
use Rattle.lq_logic_points.proofs.agreeing.is_equal.Goals as goal

pub returns-in-Less : goal.returns-in-Less
returns-in-Less c = (λ h. cc, λ e. absurd (apart_from c.cmp.result (value_of c.args.left.now) (value_of c.args.right.now) c.cmp.ensures.order c.in-Less.is e))
