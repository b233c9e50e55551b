use Rattle.lq_types_infer.proofs.AnnotationLemmas.Solved.{solved_is_principal}
use Rattle.lq_types_infer.proofs.annotation.laws.solved_is_principal.Goals as goal

pub returns : goal.returns
returns c = solved_is_principal c.visits_are_rules.ensures c.scoped_items_own_slots.ensures
