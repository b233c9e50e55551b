use Rattle.std.proofs.Common.{◌≡◌, map, take}
use Rattle.lq_refined_types.specs.Parts.Assignment.{parts_under}
use Rattle.lq_logic_predicates.specs.PredView.{formula_of, pred_items}
use Rattle.lq_refined_substitution.specs.Substitution.Views.{part_view}
use Rattle.lq_top_answers.specs.Assignment.Views.{assignment_view}
use Rattle.lq_top_answers.proofs.type_text.taking.preds_under.Given as goal

abbrev pub invariant-loop-part : goal.invariant-loop-part
invariant-loop-part l = map formula_of (pred_items l.made) ≡ parts_under (assignment_view l.assignment) (map part_view (take l.part-index l.part-items))
