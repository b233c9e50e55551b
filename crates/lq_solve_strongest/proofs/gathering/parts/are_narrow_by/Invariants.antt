-- The instances so far are narrow.
use Rattle.std.proofs.Common.{All, map, take}
use Rattle.lq_refined_instances.specs.Views.{list_view}
use Rattle.lq_solve_strongest.specs.SmallForms.Narrow.{IsNarrow}
use Rattle.lq_refined_types.specs.Parts.Substitution.{formula_by}
use Rattle.lq_refined_substitution.specs.Substitution.Views.{subst_view}
use Rattle.lq_solve_strongest.proofs.gathering.parts.are_narrow_by.Given as goal

abbrev pub invariant-loop-at : goal.invariant-loop-at
invariant-loop-at l = All IsNarrow (map (formula_by (subst_view l.by)) (take l.at (list_view l.list)))
