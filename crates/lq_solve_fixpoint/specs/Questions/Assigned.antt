-- The chosen instances of unknowns as an assignment.
use Rattle.std.specs.Prelude.{ℕ, List, [], map, slice_index_or}
use Rattle.lq_refined_instances.specs.Views.{instances_view}
use Rattle.lq_refined_instances.specs.declared.lists.Instances.{Instances}
use Rattle.lq_refined_types.specs.Parts.Assignment.{Assignment, goal_under, parts_under}
use Rattle.lq_logic_predicates.specs.ClosedImplication.{ClosedImplication}
use Rattle.lq_refined_types.specs.Parts.Constraint.{Constraint}
use Rattle.lq_refined_types.specs.Parts.Flowing.{assigned}
use Rattle.lq_logic_predicates.specs.Formula.{Formula}
use Rattle.lq_refined_types.specs.Subtyping.Implication.{constraint_of}
use Rattle.lq_refined_substitution.specs.Implications.Views.{implications_of}
use Rattle.lq_refined_substitution.specs.declared.implications.list.Implications.{Implications}
use Rattle.lq_solve_fixpoint.specs.Weakening.Chosen.{chosen_in}
use Rattle.lq_solve_fixpoint.specs.declared.weakening.chosen.Chosen.{Chosen}

-- the instances of each unknown; none of one that isn't there
abbrev pub instances_in : Instances → ℕ → List Formula
instances_in all u = slice_index_or (instances_view all) u []

abbrev pub assignment_of : Instances → Chosen → Assignment
assignment_of all c = assigned (instances_in all) (chosen_in c)

-- the implications as constraints
abbrev pub constraints_of : Implications → List Constraint
constraints_of is = map constraint_of (implications_of is)

-- a constraint with instances in place of its unknowns
abbrev pub closed_under : Assignment → Constraint → ClosedImplication
closed_under A k = record { hypotheses = parts_under A k.hypotheses; goal = goal_under A k.goal }
