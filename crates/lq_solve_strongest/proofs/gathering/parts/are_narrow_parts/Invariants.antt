-- The parts so far are narrow.
use Rattle.std.proofs.Common.{All, map, take}
use Rattle.lq_solve_strongest.specs.SmallForms.Narrow.{IsNarrow}
use Rattle.lq_refined_types.specs.Parts.Assignment.{parts_under}
use Rattle.lq_solve_fixpoint.specs.Questions.Assigned.{instances_in}
use Rattle.lq_refined_substitution.specs.Substitution.Views.{part_view}
use Rattle.lq_solve_strongest.proofs.gathering.parts.are_narrow_parts.Given as goal

abbrev pub invariant-loop-part : goal.invariant-loop-part
invariant-loop-part l = All IsNarrow (parts_under (instances_in l.instances) (map part_view (take l.part-index l.parts)))
