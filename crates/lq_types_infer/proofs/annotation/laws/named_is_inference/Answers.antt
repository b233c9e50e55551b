use Rattle.lq_types_infer.proofs.AnnotationLemmas.Named.{named_is_inference}
use Rattle.lq_types_infer.proofs.annotation.laws.named_is_inference.Goals as goal

pub returns : goal.returns
returns c = named_is_inference c.renamed_are_principal.ensures
