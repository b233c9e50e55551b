use Rattle.std.proofs.Common.{◌≡◌, take}
use Rattle.lq_top_answers.specs.Assignment.Views.{instance_lists}
use Rattle.lq_refined_instances.specs.Views.{instances_view}
use Rattle.lq_solve_fixpoint.specs.Weakening.Chosen.{chosen_in}
use Rattle.lq_top_answers.specs.Inferred.Listed.{picked_from}
use Rattle.lq_top_answers.proofs.inferred.assigning.assignment_of.Given as goal

abbrev pub invariant-loop-unknown : goal.invariant-loop-unknown
invariant-loop-unknown l = instance_lists l.assignment ≡ picked_from (chosen_in l.chosen) 0 (take l.unknown (instances_view l.instances))
