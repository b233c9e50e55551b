use Rattle.lq_types_infer.proofs.AnnotationLemmas.Seen.{seen_are_weak}
use Rattle.lq_types_infer.proofs.annotation.laws.seen_are_weak.Goals as goal

pub returns : goal.returns
returns c = seen_are_weak c.scoped_visits_are_in.ensures c.solved_is_principal.ensures
