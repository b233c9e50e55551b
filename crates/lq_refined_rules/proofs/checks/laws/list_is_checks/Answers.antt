use Rattle.std.proofs.Common.{[]}
use Rattle.lq_refined_rules.proofs.ChecksLemmas.Checking.{program_met, program_hold}
use Rattle.lq_refined_rules.proofs.checks.laws.list_is_checks.Goals as goal

pub returns : goal.returns
returns c = λ P A p r. let law = c.split_is_subtype.ensures in (λ m. program_hold law P A [] p r m, λ h. program_met law P A h r)
