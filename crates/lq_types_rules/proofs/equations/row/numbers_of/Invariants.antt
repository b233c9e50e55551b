use Rattle.std.proofs.Common.{◌≡◌, map, take}
use Rattle.lq_base_names.specs.declared.name.Binder.{Binder}
use Rattle.lq_text_tree.specs.TreeView.{tree_view, exprs_items}
use Rattle.lq_types_rules.specs.Equations.Rows.{number_of}
use Rattle.lq_types_rules.proofs.equations.row.numbers_of.Given as goal

abbrev pub invariant-loop-at : goal.invariant-loop-at
invariant-loop-at l = l.all.items ≡ map (λ e. number_of (tree_view Binder (λ b. b.0) e)) (take l.at (exprs_items Binder l.row))
