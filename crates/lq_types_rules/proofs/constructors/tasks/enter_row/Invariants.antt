use Rattle.std.proofs.Common.{◌≡◌, ◌-◌, ◌++◌, map, drop}
use Rattle.lq_text_tree.specs.SimpleTypeView.{simple_types_items}
use Rattle.lq_types_rules.specs.Constructors.Views.{tasks_view}
use Rattle.lq_types_rules.proofs.ConstructorsLemmas.Rows.{entering}
use Rattle.lq_types_rules.proofs.constructors.tasks.enter_row.Given as goal

abbrev pub invariant-loop-at : goal.invariant-loop-at
invariant-loop-at l =
    tasks_view l.tasks.items ≡ map entering (drop (l.count - l.at) (simple_types_items l.row)) ++ tasks_view l.initial.tasks.items
