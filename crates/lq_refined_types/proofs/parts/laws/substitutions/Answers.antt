use Rattle.lq_refined_types.proofs.PartsLemmas.Replacing.{formula-after, parts-after, parts-under}
use Rattle.lq_refined_types.proofs.parts.laws.substitutions.Goals as goal

pub returns-clause-formulas : goal.returns-clause-formulas
returns-clause-formulas c = formula-after

pub returns-clause-parts : goal.returns-clause-parts
returns-clause-parts c = parts-after

pub returns-clause-under : goal.returns-clause-under
returns-clause-under c = λ scopes A θ qs s. parts-under scopes A θ qs s
