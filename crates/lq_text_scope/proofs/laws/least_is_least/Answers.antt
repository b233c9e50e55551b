use Rattle.lq_text_scope.proofs.Ordering.{least_is_least}
use Rattle.lq_text_scope.proofs.laws.least_is_least.Goals as goal

pub returns : goal.returns
returns c = least_is_least
