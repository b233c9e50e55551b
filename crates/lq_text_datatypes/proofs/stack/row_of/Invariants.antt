use Rattle.std.proofs.Common.{◌≡◌, ◌++◌, length}
use Rattle.lq_text_tree.specs.SimpleTypeView.{simple_types_items}
use Rattle.lq_text_datatypes.specs.Views.{stack_view, types_in}
use Rattle.lq_text_datatypes.proofs.stack.row_of.Given as goal

abbrev pub invariant-loop-next : goal.invariant-loop-next
invariant-loop-next l = types_in (simple_types_items l.row) ++ stack_view l.popped.items ≡ stack_view l.fn.popped.items

abbrev pub decreases-loop-next : goal.decreases-loop-next
decreases-loop-next l = length l.popped.items
