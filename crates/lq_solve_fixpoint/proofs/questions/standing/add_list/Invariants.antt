-- What was added so far.
use Rattle.std.proofs.Common.{◌≡◌, ◌++◌, map, take}
use Rattle.lq_refined_instances.specs.Views.{list_view}
use Rattle.lq_refined_types.specs.Parts.Flowing.{picked}
use Rattle.lq_refined_types.specs.Parts.Substitution.{formula_by}
use Rattle.lq_logic_predicates.specs.PredView.{formula_of, pred_items}
use Rattle.lq_refined_substitution.specs.Substitution.Views.{subst_view}
use Rattle.lq_solve_fixpoint.specs.Weakening.Chosen.{chosen_in}
use Rattle.lq_solve_fixpoint.proofs.questions.standing.add_list.Given as goal

abbrev pub invariant-loop-at : goal.invariant-loop-at
invariant-loop-at l =
    map formula_of (pred_items l.preds) ≡ map formula_of (pred_items l.initial.preds) ++ map (formula_by (subst_view l.by)) (picked (chosen_in l.chosen l.unknown) 0 (take l.at (list_view l.list)))
