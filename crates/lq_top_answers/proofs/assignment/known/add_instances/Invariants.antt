use Rattle.std.proofs.Common.{◌≡◌, ◌++◌, map, take}
use Rattle.lq_refined_types.specs.Parts.Part.{known}
use Rattle.lq_refined_types.specs.Parts.Substitution.{formula_by}
use Rattle.lq_logic_predicates.specs.PredView.{formula_of}
use Rattle.lq_refined_substitution.specs.Substitution.Views.{parts_view, subst_view}
use Rattle.lq_top_answers.proofs.assignment.known.add_instances.Given as goal

abbrev pub invariant-loop-pred : goal.invariant-loop-pred
invariant-loop-pred l =
    parts_view l.into ≡ parts_view l.initial.into ++ map known (map (formula_by (subst_view l.by)) (map formula_of (take l.pred-index l.preds)))
