use Rattle.std.proofs.Common.{◌≡◌, map, length}
use Rattle.lq_base_names.specs.declared.name.Binder.{Binder}
use Rattle.lq_text_tree.specs.TreeView.{tree_view}
use Rattle.lq_text_walk.specs.Walk.Visits.{visits_of, in_row}
use Rattle.lq_types_infer.specs.Inference.Pending.{pending_trees}
use Rattle.lq_types_rules.specs.Typings.Uses.{is_value, all_values}
use Rattle.lq_types_infer.proofs.inference.values.is_value.Given as goal

abbrev pub invariant-loop-part : goal.invariant-loop-part
invariant-loop-part l = is_value (tree_view Binder (λ b. b.0) l.expr) ≡ all_values (map is_value (pending_trees l.pending.items))

abbrev pub decreases-loop-part : goal.decreases-loop-part
decreases-loop-part l = length (in_row (map visits_of (pending_trees l.pending.items)))
