use Rattle.lq_types_infer.proofs.AnnotationLemmas.Seen.{seen_are_principal}
use Rattle.lq_types_infer.proofs.annotation.laws.seen_are_principal.Goals as goal

pub returns : goal.returns
returns c =
    seen_are_principal c.renamed_are_principal.ensures c.scoped_items_own_slots.ensures c.scoped_visits_are_in.ensures c.solved_is_principal.ensures
