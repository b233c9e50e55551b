use Rattle.std.proofs.Common.{◌≡◌, map, take}
use Rattle.lq_refined_types.specs.Parts.Part.{known}
use Rattle.lq_refined_types.specs.Parts.Substitution.{formula_by}
use Rattle.lq_logic_predicates.specs.PredView.{formula_of}
use Rattle.lq_refined_substitution.specs.Substitution.Views.{parts_view, subst_view}
use Rattle.lq_generate_operations.proofs.operations.fields.equations_by.Given as goal

abbrev pub invariant-loop-equation : goal.invariant-loop-equation
invariant-loop-equation l =
    parts_view l.made ≡ map (λ q. known (formula_by (subst_view l.by) q)) (map formula_of (take l.equation-index l.equation-items))
