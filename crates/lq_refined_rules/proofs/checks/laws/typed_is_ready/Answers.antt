use Rattle.lq_refined_rules.proofs.ChecksLemmas.Readying.{typed_ready}
use Rattle.lq_refined_rules.proofs.checks.laws.typed_is_ready.Goals as goal

pub returns : goal.returns
returns c = λ P Q p are h d. typed_ready c.simple_types_are_kept.ensures P Q are p h d
