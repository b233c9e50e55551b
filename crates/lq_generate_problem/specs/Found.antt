-- Instances that are found at once or later.
use Rattle.std.specs.Prelude.{ℕ, ◌≤◌, List}
use Rattle.lq_refined_instances.specs.Instances.{all_instances_of, total_count}
use Rattle.lq_refined_instances.specs.Views.{instances_view}
use Rattle.lq_logic_predicates.specs.Formula.{Formula}
use Rattle.lq_refined_copies.specs.Views.{shared_view}
use Rattle.lq_text_qualifiers.specs.Sorting.Sorted.{Qualifier}
use Rattle.lq_generate_problem.specs.declared.found.Found.{Found}
use Rattle.lq_generate_problem.specs.declared.found.Found.TheVariants.{Made, Later}

-- the instances that there are, or will be
abbrev pub found_list : List ℕ → List Qualifier → Found → List (List Formula)
found_list ms qs (Made all) = instances_view all
found_list ms qs (Later us) = all_instances_of ms qs (shared_view us)

-- those that are still to be made are few
abbrev pub IsFew : List Qualifier → Found → Type 0
IsFew qs (Made all) = Unit {0}
IsFew qs (Later us) = total_count qs (shared_view us) ≤ 262144
