use Rattle.lq_refined_subtyping.proofs.table.table.RefinedTypes.+kind.Given as goal

abbrev pub decreases-kind : goal.decreases-kind
decreases-kind l = l.at
