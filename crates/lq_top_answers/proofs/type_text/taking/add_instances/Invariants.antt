use Rattle.std.proofs.Common.{◌≡◌, ◌++◌, map, take}
use Rattle.lq_refined_types.specs.Parts.Substitution.{formula_by}
use Rattle.lq_logic_predicates.specs.PredView.{formula_of, pred_items}
use Rattle.lq_refined_substitution.specs.Substitution.Views.{subst_view}
use Rattle.lq_top_answers.proofs.type_text.taking.add_instances.Given as goal

abbrev pub invariant-loop-pred : goal.invariant-loop-pred
invariant-loop-pred l =
    map formula_of (pred_items l.into)
    ≡ map formula_of (pred_items l.initial.into) ++ map (formula_by (subst_view l.by)) (map formula_of (take l.pred-index l.preds))
