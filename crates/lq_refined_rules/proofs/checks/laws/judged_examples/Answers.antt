use Rattle.lq_refined_rules.proofs.ChecksLemmas.Judged.{guarded_checks, unguarded_fails}
use Rattle.lq_refined_rules.proofs.checks.laws.judged_examples.Goals as goal

pub returns-clause-checks : goal.returns-clause-checks
returns-clause-checks c = guarded_checks

pub returns-clause-fails : goal.returns-clause-fails
returns-clause-fails c = unguarded_fails
