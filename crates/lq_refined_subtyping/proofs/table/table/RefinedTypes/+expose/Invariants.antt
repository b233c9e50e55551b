use Rattle.lq_refined_subtyping.proofs.table.table.RefinedTypes.+expose.Given as goal

abbrev pub decreases-expose : goal.decreases-expose
decreases-expose l = l.at
