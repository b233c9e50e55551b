use Rattle.lq_refined_subtyping.proofs.table.table.RefinedTypes.+variable.Given as goal

abbrev pub decreases-variable : goal.decreases-variable
decreases-variable l = l.at
