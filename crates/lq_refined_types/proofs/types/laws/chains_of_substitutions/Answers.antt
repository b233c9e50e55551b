use Rattle.lq_refined_types.proofs.TypesLemmas.Replacing.{type-after}
use Rattle.lq_refined_types.proofs.types.laws.chains_of_substitutions.Goals as goal

pub returns : goal.returns
returns c = λ scopes θ σ t. type-after c.substitutions.ensures.parts scopes θ σ t
