use Rattle.lq_types_infer.proofs.AnnotationLemmas.Seen.{seen_variables_are_apart}
use Rattle.lq_types_infer.proofs.annotation.laws.seen_variables_are_apart.Goals as goal

pub returns : goal.returns
returns c = seen_variables_are_apart c.scoped_visits_are_in.ensures c.solved_variables_are_apart.ensures
