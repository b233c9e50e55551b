use Rattle.lq_types_infer.proofs.AnnotationLemmas.Apart.{solved_variables_are_apart}
use Rattle.lq_types_infer.proofs.annotation.laws.solved_variables_are_apart.Goals as goal

pub returns : goal.returns
returns c = solved_variables_are_apart c.visits_are_rules.ensures c.renamed_are_principal.ensures c.solved_is_principal.ensures
