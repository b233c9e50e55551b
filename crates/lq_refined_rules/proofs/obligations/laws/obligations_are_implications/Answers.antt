use Rattle.lq_refined_rules.proofs.ObligationsLemmas.Splitting.{program_same}
use Rattle.lq_refined_rules.proofs.obligations.laws.obligations_are_implications.Goals as goal

pub returns : goal.returns
returns c = λ P Γ program. program_same P Γ program
