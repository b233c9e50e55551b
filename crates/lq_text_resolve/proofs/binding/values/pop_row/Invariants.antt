use Rattle.std.proofs.Common.{◌≡◌, ◌++◌, reverse, length}
use Rattle.lq_base_names.specs.declared.name.Binder.{Binder}
use Rattle.lq_text_tree.specs.TreeView.{exprs_items}
use Rattle.lq_text_resolve.specs.Binding.Views.{trees_in}
use Rattle.lq_text_resolve.proofs.binding.values.pop_row.Given as goal

abbrev pub invariant-loop-part : goal.invariant-loop-part
invariant-loop-part l = trees_in (exprs_items Binder l.row) ++ reverse (trees_in l.parts.items) ≡ reverse (trees_in l.initial.parts.items)

abbrev pub decreases-loop-part : goal.decreases-loop-part
decreases-loop-part l = length l.parts.items
