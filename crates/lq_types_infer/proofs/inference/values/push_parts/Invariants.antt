use Rattle.std.proofs.Common.{◌≡◌, ◌++◌, map, take}
use Rattle.lq_base_names.specs.declared.name.Binder.{Binder}
use Rattle.lq_text_tree.specs.TreeView.{tree_view, exprs_items}
use Rattle.lq_types_infer.specs.Inference.Pending.{pending_trees}
use Rattle.lq_types_infer.proofs.inference.values.push_parts.Given as goal

abbrev pub invariant-loop-at : goal.invariant-loop-at
invariant-loop-at l =
    pending_trees l.pending.items ≡ pending_trees l.initial.pending.items ++ map (tree_view Binder (λ b. b.0)) (take l.at (exprs_items Binder l.parts))
