-- What an assignment of the code stands for.
use Rattle.std.specs.Prelude.{List, [], map, slice_index_or}
use Rattle.lq_refined_types.specs.Parts.Assignment as parts
use Rattle.lq_logic_predicates.specs.Formula.{Formula}
use Rattle.lq_logic_predicates.specs.PredView.{formula_of, pred_items}
use Rattle.lq_top_answers.specs.declared.assignment.assignment.Assignment.{Assignment}

-- the instances of each unknown, by its number
abbrev pub instance_lists : Assignment → List (List Formula)
instance_lists a = map (λ ps. map formula_of (pred_items ps)) a.chosen.items

abbrev pub assignment_view : Assignment → parts.Assignment
assignment_view a u = slice_index_or (instance_lists a) u []
