use Rattle.std.proofs.Common.{◌≡◌, map, take}
use Rattle.lq_refined_types.specs.Types.Operations.{known_parts}
use Rattle.lq_refined_substitution.specs.Substitution.Views.{part_view, parts_view}
use Rattle.lq_top_answers.specs.Assignment.Views.{assignment_view}
use Rattle.lq_top_answers.proofs.assignment.known.known_parts.Given as goal

abbrev pub invariant-loop-part : goal.invariant-loop-part
invariant-loop-part l = parts_view l.made ≡ known_parts (assignment_view l.assignment) (map part_view (take l.part-index l.part-items))
