use Rattle.std.proofs.Common.{◌≡◌, ◌-◌, ◌++◌, map, drop}
use Rattle.lq_text_tree.specs.TypeView.{type_exprs_items}
use Rattle.lq_text_scope.specs.Spots.{pending}
use Rattle.lq_text_scope.proofs.TypeRows.{typed}
use Rattle.lq_text_scope.proofs.datatypes.push_types.Given as goal

abbrev pub invariant-loop-at : goal.invariant-loop-at
invariant-loop-at l =
    pending l.left.items ≡ map (typed l.wrongly) (drop (l.count - l.at) (type_exprs_items l.row)) ++ pending l.initial.left.items
