use Rattle.lq_refined_rules.proofs.ObligationsLemmas.Shaping.{program_shaped}
use Rattle.lq_refined_rules.proofs.obligations.laws.obligations_are_shaped.Goals as goal

pub returns : goal.returns
returns c = λ P Γ program r. program_shaped P Γ program r
