use Rattle.std.proofs.Common.{◌≡◌, ◌-◌, ◌++◌, map, drop}
use Rattle.lq_text_tree.specs.TypeView.{type_exprs_items}
use Rattle.lq_text_datatypes.specs.Views.{tasks_view}
use Rattle.lq_text_datatypes.proofs.Rows.{entering}
use Rattle.lq_text_datatypes.proofs.simple.enter_row.Given as goal

abbrev pub invariant-loop-at : goal.invariant-loop-at
invariant-loop-at l =
    tasks_view l.tasks.items ≡ map entering (drop (l.count - l.at) (type_exprs_items l.row)) ++ tasks_view l.initial.tasks.items
