use Rattle.lq_refined_types.proofs.PartsLemmas.Values.{truth-by}
use Rattle.lq_refined_types.proofs.parts.laws.truth_under_substitution.Goals as goal

pub returns : goal.returns
returns c = truth-by
