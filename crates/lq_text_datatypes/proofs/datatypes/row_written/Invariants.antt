use Rattle.std.proofs.Common.{◌≡◌, map, take}
use Rattle.lq_text_tree.specs.Items.{parameter_view}
use Rattle.lq_text_tree.specs.Signatures.{written}
use Rattle.lq_text_tree.specs.SimpleTypeView.{simple_types_items}
use Rattle.lq_text_tree.specs.TypeView.{type_exprs_items, type_view}
use Rattle.lq_text_datatypes.specs.Views.{types_in}
use Rattle.lq_text_datatypes.proofs.datatypes.row_written.Given as goal

abbrev pub invariant-loop-at : goal.invariant-loop-at
invariant-loop-at l =
    types_in (simple_types_items l.types) ≡ map (λ t. written (map parameter_view l.parameters) (type_view t)) (take l.at (type_exprs_items l.row))
